use Rattle.std.proofs.Common.{◌≡◌, map}
use Rattle.ttcnx_runs.proofs.runs.pairs_of.Given as goal
use Rattle.semantics.specs.LiveParts.{live_part}
use Rattle.ttcn_step.specs.Machines.{said}

abbrev pub invariant-loop-label : goal.invariant-loop-label
invariant-loop-label g l = l.pairs.items ≡ map (λ s. (s.label, live_part (said g.K.Scheme.machine s.config))) l.yielded

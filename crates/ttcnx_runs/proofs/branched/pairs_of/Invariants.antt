use Rattle.std.proofs.Common.{◌≡◌, map}
use Rattle.ttcnx_runs.proofs.branched.pairs_of.Given as goal

abbrev pub invariant-loop-label : goal.invariant-loop-label
invariant-loop-label g l = l.pairs.items ≡ map (λ step. (step.branch, step.after)) l.yielded

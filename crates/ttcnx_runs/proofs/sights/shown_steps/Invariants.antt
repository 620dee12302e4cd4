use Rattle.std.proofs.Common.{◌≡◌, map}
use Rattle.ttcn_step.specs.Machines.{said}
use Rattle.ttcnx_runs.proofs.sights.shown_steps.Given as goal
use Rattle.ttcnx_runs.specs.Sights.{step_place}

abbrev pub invariant-loop-label : goal.invariant-loop-label
invariant-loop-label l = l.found.items ≡ map (λ label. (label, step_place l.machine.test (said l.machine l.config) label)) l.yielded

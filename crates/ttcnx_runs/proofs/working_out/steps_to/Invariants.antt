use Rattle.std.proofs.Common.{◌≡◌, map}
use Rattle.std.specs.List.{All}
use Rattle.ttcnx_runs.proofs.working_out.steps_to.Given as goal
use Rattle.ttcnx_runs.specs.internal.WorkedOut.{IsStep}

abbrev pub invariant-loop-label : goal.invariant-loop-label
invariant-loop-label g l = record {
  labels : map (λ step. step.label) l.steps.items ≡ map (λ s. s.label) l.yielded;
  each : All (IsStep g.K.Scheme.machine l.config) l.steps.items;
}

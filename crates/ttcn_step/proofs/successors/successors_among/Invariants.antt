use Rattle.std.proofs.Common.{◌≡◌}
use Rattle.std.specs.List.{All}
use Rattle.semantics.specs.Configurations as rules
use Rattle.step_snapshot.specs.Tests.{legend_by, test_by}
use Rattle.config_parts.specs.Legend.{going_by}
use Rattle.ttcn_step.specs.Machines.{Fits, machine_of}
use Rattle.ttcn_step.specs.internal.Steps.{leads}
use Rattle.ttcn_step.specs.internal.Successors.{pairs_by}
use Rattle.ttcn_step.proofs.successors.successors_among.Given as goal

-- the enabled ones among the labels so far are found
abbrev pub invariant-loop-label : goal.invariant-loop-label
invariant-loop-label l = record {
  pairs : pairs_by (machine_of l.test) l.found.items ≡ leads (test_by l.test) (rules.Goes (going_by (legend_by l.test) l.going)) l.yielded;
  fits : All (λ s. Fits (machine_of l.test) s.config) l.found.items;
}

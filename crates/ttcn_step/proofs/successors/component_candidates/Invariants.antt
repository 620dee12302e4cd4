use Rattle.std.proofs.Common.{◌≡◌, ◌++◌, drop}
use Rattle.step_snapshot.specs.Tests.{legend_by}
use Rattle.ttcn_step.proofs.Parts.{parts_of}
use Rattle.ttcn_step.specs.internal.Steps.{candidates_of}
use Rattle.ttcn_step.proofs.successors.component_candidates.Given as goal

-- the labels so far, before those of the components to come
abbrev pub invariant-loop-component : goal.invariant-loop-component
invariant-loop-component l =
    l.labels.items ++ parts_of (legend_by l.test) candidates_of (drop l.component-index l.component-items)
    ≡ parts_of (legend_by l.test) candidates_of l.component-items

use Rattle.std.proofs.Common.{◌≡◌, ◌++◌, drop}
use Rattle.semantics.specs.Labels.{labels_of_component}
use Rattle.step_snapshot.specs.Tests.{legend_by, test_by}
use Rattle.config_parts.specs.Legend.{going_by}
use Rattle.ttcn_step.proofs.Parts.{parts_of}
use Rattle.ttcn_step.proofs.labels.component_labels.Given as goal

-- the labels so far, before those of the components to come
abbrev pub invariant-loop-component : goal.invariant-loop-component
invariant-loop-component l =
    l.labels.items ++ parts_of (legend_by l.test) (labels_of_component (test_by l.test) (going_by (legend_by l.test) l.going)) (drop l.component-index l.component-items)
    ≡ parts_of (legend_by l.test) (labels_of_component (test_by l.test) (going_by (legend_by l.test) l.going)) l.component-items

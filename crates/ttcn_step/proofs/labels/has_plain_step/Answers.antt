use Rattle.std.proofs.Common.{sym, ap, ◌∙◌}
use Rattle.semantics.specs.Labels.{labels_of_component}
use Rattle.step_snapshot.specs.Tests.{legend_by, test_by}
use Rattle.config_parts.specs.Legend.{component_by, going_by}
use Rattle.ttcn_step.proofs.Parts.{parts_of}
use Rattle.ttcn_step.proofs.Stuck.{has-label, some-part}
use Rattle.ttcn_step.proofs.labels.has_plain_step.Goals as goal

pub returns-then-stands_at_plain : goal.returns-then-stands_at_plain
returns-then-stands_at_plain c = λ yes. λ none.
    let legend = legend_by c.args.test.now in
    let going = going_by legend c.args.going.now in
    let f = labels_of_component (test_by c.args.test.now) going in
    let items = c.as_slice-component-items.result.now in
    some-part legend f items c.loop-component.component-index c.component-item.result c.loop-component-test.true c.component-item.is
    (has-label (test_by c.args.test.now) going (component_by legend c.component-item.result) (sym c.is_running.ensures ∙ c.if-is_running.true) (c.stands_at_plain.ensures c.if-stands_at_plain.true going (sym c.is_running.ensures ∙ c.if-is_running.true)))
    (ap (parts_of legend f) c.as_slice-component-items.ensures ∙ none)

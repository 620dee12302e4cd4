use Rattle.std.proofs.Common.{refl}
use Rattle.semantics.specs.Labels.{labels_of_component}
use Rattle.step_snapshot.specs.Tests.{extent_of, legend_by, test_by}
use Rattle.config_parts.specs.Legend.{component_by, going_by}
use Rattle.ttcn_step.proofs.Limits.{kept-at, within-at}
use Rattle.step_arrivals.proofs.Listed.{grown}
use Rattle.ttcn_step.proofs.Parts.{parts_of}
use Rattle.ttcn_step.proofs.Steps.{paths-in-order}
use Rattle.ttcn_step.proofs.labels.component_labels.Goals as goal

pub push_component-requires-clause-ordered : goal.push_component-requires-clause-ordered
push_component-requires-clause-ordered c = paths-in-order (legend_by c.args.test.now) c.args.going.now c.requires.ordered.ordered

pub push_component-requires-clause-limit : goal.push_component-requires-clause-limit
push_component-requires-clause-limit c =
    kept-at (legend_by c.args.test.now) c.as_slice-component-items.result.now c.args.going.now.components c.loop-component.component-index c.component-item.result
    c.as_slice-component-items.ensures c.loop-component-test.true c.component-item.is c.requires.frames

pub push_component-requires-clause-within : goal.push_component-requires-clause-within
push_component-requires-clause-within c =
    within-at (extent_of c.args.test.now) c.as_slice-component-items.result.now c.args.going.now.components c.loop-component.component-index c.component-item.result
    c.as_slice-component-items.ensures c.loop-component-test.true c.component-item.is c.requires.within.components

pub loop-component-preserved : goal.loop-component-preserved
loop-component-preserved c =
    let legend = legend_by c.args.test.now in
    let f = labels_of_component (test_by c.args.test.now) (going_by legend c.args.going.now) in
    let items = c.as_slice-component-items.result.now in
    grown (parts_of legend f) items c.loop-component.component-index c.component-item.result
    c.loop-component.labels.items c.push_component.new.labels.items (f (component_by legend c.component-item.result)) (parts_of legend f items)
    c.loop-component-test.true c.component-item.is refl c.in_ok-push_component.ensures c.loop-component.invariant

use Rattle.std.proofs.Common.{refl}
use Rattle.step_snapshot.specs.Tests.{extent_of, legend_by}
use Rattle.config_parts.specs.Legend.{component_by}
use Rattle.ttcn_step.proofs.Limits.{kept-at, within-at}
use Rattle.step_arrivals.proofs.Listed.{grown}
use Rattle.ttcn_step.proofs.Parts.{parts_of}
use Rattle.ttcn_step.specs.internal.Steps.{candidates_of}
use Rattle.ttcn_step.proofs.successors.component_candidates.Goals as goal

pub push_candidates-requires-clause-limit : goal.push_candidates-requires-clause-limit
push_candidates-requires-clause-limit c =
    kept-at (legend_by c.args.test.now) c.as_slice-component-items.result.now c.args.going.now.components c.loop-component.component-index c.component-item.result
    c.as_slice-component-items.ensures c.loop-component-test.true c.component-item.is c.requires.frames

pub push_candidates-requires-clause-within : goal.push_candidates-requires-clause-within
push_candidates-requires-clause-within c =
    within-at (extent_of c.args.test.now) c.as_slice-component-items.result.now c.args.going.now.components c.loop-component.component-index c.component-item.result
    c.as_slice-component-items.ensures c.loop-component-test.true c.component-item.is c.requires.within.components

pub loop-component-preserved : goal.loop-component-preserved
loop-component-preserved c =
    let legend = legend_by c.args.test.now in
    let items = c.as_slice-component-items.result.now in
    grown (parts_of legend candidates_of) items c.loop-component.component-index c.component-item.result
    c.loop-component.labels.items c.push_candidates.new.labels.items (candidates_of (component_by legend c.component-item.result)) (parts_of legend candidates_of items)
    c.loop-component-test.true c.component-item.is refl c.in_ok-push_candidates.ensures c.loop-component.invariant

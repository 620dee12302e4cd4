use Rattle.std.proofs.Common.{ap, refl, sym, true≢false, ◌∙◌}
use Rattle.semantics.specs.Labels.{labels_of_component}
use Rattle.step_snapshot.specs.Tests.{extent_of, legend_by, test_by}
use Rattle.config_parts.specs.Legend.{component_by, going_by}
use Rattle.ttcn_step.proofs.Limits.{kept-at, within-at}
use Rattle.ttcn_step.proofs.Parts.{parts_of}
use Rattle.ttcn_step.proofs.Steps.{paths-in-order}
use Rattle.ttcn_step.proofs.Stuck.{empties, fills, left-over, passed}
use Rattle.ttcn_step.proofs.labels.are_stuck.Goals as goal

pub labels_at-requires-clause-ordered : goal.labels_at-requires-clause-ordered
labels_at-requires-clause-ordered c = paths-in-order (legend_by c.args.test.now) c.args.going.now c.requires.ordered.ordered

pub labels_at-requires-clause-limit : goal.labels_at-requires-clause-limit
labels_at-requires-clause-limit c =
    kept-at (legend_by c.args.test.now) c.as_slice-component-items.result.now c.args.going.now.components c.loop-component.component-index c.component-item.result
    c.as_slice-component-items.ensures c.loop-component-test.true c.component-item.is c.requires.frames

pub labels_at-requires-clause-within : goal.labels_at-requires-clause-within
labels_at-requires-clause-within c =
    within-at (extent_of c.args.test.now) c.as_slice-component-items.result.now c.args.going.now.components c.loop-component.component-index c.component-item.result
    c.as_slice-component-items.ensures c.loop-component-test.true c.component-item.is c.requires.within.components

pub loop-component-preserved : goal.loop-component-preserved
loop-component-preserved c =
    let legend = legend_by c.args.test.now in
    let f = labels_of_component (test_by c.args.test.now) (going_by legend c.args.going.now) in
    let items = c.as_slice-component-items.result.now in
    let labels = c.in_ok-labels.labels in
    passed (parts_of legend f) items c.loop-component.component-index c.component-item.result (f (component_by legend c.component-item.result)) (parts_of legend f items)
    c.loop-component-test.true c.component-item.is refl (sym c.in_ok-labels.ensures ∙ empties labels.items labels.len labels.ok.0 c.if-not-is_empty.ensures) c.loop-component.invariant

pub returns-then-not-is_empty : goal.returns-then-not-is_empty
returns-then-not-is_empty c =
    let legend = legend_by c.args.test.now in
    let f = labels_of_component (test_by c.args.test.now) (going_by legend c.args.going.now) in
    let items = c.as_slice-component-items.result.now in
    let labels = c.in_ok-labels.labels in (
      λ stuck. absurd (true≢false (sym stuck)),
      λ none. absurd
          (left-over (parts_of legend f) items c.loop-component.component-index c.component-item.result (f (component_by legend c.component-item.result)) (parts_of legend f items)
          c.loop-component-test.true c.component-item.is refl (λ part. fills labels.items labels.len labels.ok.0 c.if-not-is_empty.ensures (c.in_ok-labels.ensures ∙ part)) c.loop-component.invariant
          (ap (parts_of legend f) c.as_slice-component-items.ensures ∙ none)),
    )

pub returns-then-has_plain_step : goal.returns-then-has_plain_step
returns-then-has_plain_step c = (
  λ stuck. absurd (true≢false (sym stuck)),
  λ none. absurd (c.has_plain_step.ensures c.if-has_plain_step.true none),
)

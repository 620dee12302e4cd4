use Rattle.std.proofs.Common.{◌≡◌, ◌+◌, ◌-◌, ◌<◌, ◌++◌, [], arith, length, refl, subst, sym, ap, ◌∙◌}
use Rattle.semantics.specs.Labels.{frame_expiries}
use Rattle.config_parts.specs.Legend.{frame_with}
use Rattle.config_parts.specs.Views.{HasSlotsWithin}
use Rattle.config_parts.specs.declared.frame.Cells.{Cells}
use Rattle.config_parts.specs.declared.frame.Frame.{Frame}
use Rattle.step_snapshot.specs.Tests.{legend_by}
use Rattle.step_arrivals.proofs.Listed.{frame-below}
use Rattle.step_arrivals.proofs.expiry.push_calls.Goals as goal

pub push_frame-requires : goal.push_frame-requires
push_frame-requires c =
    let n = length c.args.calls.now in
    let below : c.loop-below.below < n = c.loop-below-test.true in
    let within : n - 1 - c.loop-below.below < n = omega arith in
    subst (λ (cells : Cells). HasSlotsWithin (length c.args.test.now.names) cells) (sym c.get-cells.ensures) (c.requires.within (n - 1 - c.loop-below.below) c.index-calls-calls.result within).cells

pub loop-below-preserved : goal.loop-below-preserved
loop-below-preserved c =
    let below = c.loop-below-test.true in
    let grows : c.push_frame.new.labels.items ≡ c.loop-below.labels.items ++ frame_expiries c.args.path.now (c.loop-below.below + 1) (frame_with (legend_by c.args.test.now) [] c.index-calls-calls.result.cells) =
    c.in_ok-push_frame.ensures
    ∙ ap (λ (cells : Cells). c.loop-below.labels.items ++ frame_expiries c.args.path.now (c.loop-below.below + 1) (frame_with (legend_by c.args.test.now) [] cells)) c.get-cells.ensures
    ∙ ap (λ (f : Frame). c.loop-below.labels.items ++ frame_expiries c.args.path.now (c.loop-below.below + 1) (frame_with (legend_by c.args.test.now) [] f.cells)) (sym c.index-calls-calls.is) in
    frame-below (legend_by c.args.test.now) c.args.path.now c.args.calls.now c.loop-below.below (c.loop-below.below + 1) c.index-calls-calls.result c.args.labels.now.items c.loop-below.labels.items c.push_frame.new.labels.items
    below c.index-calls-calls.is refl c.loop-below.invariant grows

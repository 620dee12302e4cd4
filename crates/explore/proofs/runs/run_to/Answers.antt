use Rattle.std.proofs.Common.{◌++◌, ap, sym, ◌∙◌, arith}
use Rattle.std.specs.Option.{option_map}
use Rattle.std.specs.Prelude.{reverse}
use Rattle.summary.specs.Run.{labels_of}
use Rattle.explore.specs.internal.Tied.{run_at}
use Rattle.explore.proofs.RunLabels.{step-back, before-within}
use Rattle.explore.proofs.runs.run_to.Goals as goal

pub loop-at-preserved : goal.loop-at-preserved
loop-at-preserved g c =
    let steps = c.args.steps.now in
    let at = c.loop-at.at in
    let is = sym c.at.ensures ∙ ap (option_map (λ step. step.now)) c.in-Some.is in
    let earlier = before-within steps at c.in-Some.step.now c.requires.back c.loop-at.invariant.0 is in (
      omega (arith, earlier, c.loop-at.invariant.0),
      λ runs h.
          step-back runs steps at c.in-Some.step.now c.loop-at.labels.items c.in_ok-copy.field-0 (labels_of (run_at runs c.args.place)) h c.loop-at.invariant.0 is
          c.in_ok-copy.ensures (c.loop-at.invariant.1 runs h)
          ∙ ap (λ ls. labels_of (run_at runs c.in-Some.step.now.before) ++ reverse ls) (sym c.in_ok-push.ensures.items),
    )

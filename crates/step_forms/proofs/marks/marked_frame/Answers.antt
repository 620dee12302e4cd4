use Rattle.std.proofs.Common.{List, Some, ap, sym, ◌∙◌}
use Rattle.step_forms.proofs.Marking.{frame-found, frames-drop}
use Rattle.step_forms.proofs.marks.marked_frame.Goals as goal
use Rattle.step_forms.specs.internal.Places.{list_at}
use Rattle.step_forms.specs.internal.Marks.{going_on_from}
use Rattle.semantics.specs.Configurations.{Frame}
use Rattle.step_snapshot.specs.Tests.{legend_by}

pub returns-in-Some-clause-found : goal.returns-in-Some-clause-found
returns-in-Some-clause-found c =
    let t = c.args.test.now in
    let calls = c.args.calls.now in
    let n = c.loop-above.above in
    let list = list_at t c.in-Some.position in
    c.loop-above.invariant
    ∙ frame-found (legend_by t) calls n c.index-calls-above.result c.loop-above-test.true c.index-calls-above.is list (sym c.in-Some.ensures.marked)
    ∙ ap (λ (frames : List Frame). Some (going_on_from list frames)) (frames-drop (legend_by t) calls n)

use Rattle.std.proofs.Common.{ap, ◌∙◌, inl, inr}
use Rattle.shared.proofs.Marking.{gathers}
use Rattle.shared.proofs.seen.collect.marked.Goals as goal
use Rattle.shared.proofs.seen.collect.marked.Goals.{then-marks-position+in_ok-push, else-marks-position}

pub loop-position-preserved : goal.loop-position-preserved
loop-position-preserved c =
    let step = gathers c.args.marks.now c.loop-position.position c.loop-position.firsts.items c.if-marks-position.firsts.items c.loop-position.invariant.ascending c.loop-position.invariant.members
    (elim c.if-marks-position.branch [ then-marks-position+in_ok-push w ↦ inl (w.if-marks-position.true, ap (λ v. v.items) w.firsts-is ∙ w.in_ok-push.ensures.items) | else-marks-position w ↦ inr (w.if-marks-position.false, ap (λ v. v.items) w.firsts-is) ]) in
    record { ascending = step.ascending; members = step.members }

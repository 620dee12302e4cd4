use Rattle.std.proofs.Common.{◌∙◌, sym}
use Rattle.explore.proofs.Noting.{shown-push}
use Rattle.explore.specs.internal.Noting.{note}
use Rattle.explore.proofs.sightings.note_shown.Goals as goal

pub loop-label-preserved : goal.loop-label-preserved
loop-label-preserved g c =
    let eq = g.E.PartialEq.eq in
    c.in_ok-note.ensures
    ∙ (λ i. note eq c.in-Some.event (record { before = c.args.place; label = c.in-Some.label }) (c.loop-label.invariant i))
    ∙ sym (shown-push eq c.args.place c.loop-label.yielded c.in-Some.label c.in-Some.event c.args.noted.now.items)

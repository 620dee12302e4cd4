use Rattle.std.proofs.Common.{◌∙◌, ap, sym}
use Rattle.std.specs.List.{list_any}
use Rattle.explore.proofs.Noting.{note-known}
use Rattle.explore.specs.declared.sightings.Noted.{Noted}
use Rattle.explore.proofs.sightings.note.Goals as goal

pub returns-else-not-is_noted : goal.returns-else-not-is_noted
returns-else-not-is_noted g c =
    note-known g.E.PartialEq.eq c.args.event c.in-Some.event c.args.at c.args.noted.now.items c.in-Some.is
    (ap (list_any (λ (n : Noted _ _). g.E.PartialEq.eq n.event c.in-Some.event)) (sym c.as_slice.ensures.value) ∙ sym c.is_noted.ensures ∙ c.if-not-is_noted.false)

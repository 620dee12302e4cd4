use Rattle.std.proofs.Common.{get_or, sym, ap, ap₂, ◌∙◌}
use Rattle.atomic_table.proofs.Lists.{at_index}
use Rattle.shared.proofs.ClassLemmas.{alike-from-equal, equal-from-alike}
use Rattle.shared.specs.SeenSeats.{items_of}
use Rattle.shared.proofs.seen.Seen.are_equal.Goals as goal

pub returns : goal.returns
returns g c = let items = items_of c.args.self.now in let same = c.args.self.now.items_are in
    let x = c.index-self-one in let y = c.index-self-other in
    let at = at_index items c.args.one x.result c.requires.0 (x.is ∙ ap (λ l. get_or l c.args.one x.result) same) in
    let here = at_index items c.args.other y.result c.requires.1 (y.is ∙ ap (λ l. get_or l c.args.other y.result) same) in let found = c.eq.ensures ∙ ap₂ g.S.PartialEq.eq (sym x.is) (sym y.is) in (
      (λ yes. alike-from-equal g.S.PartialEq.eq g.met.S.Eq.laws items c.args.one c.args.other x.result y.result at here (sym found ∙ yes)),
      λ alike. found ∙ equal-from-alike g.S.PartialEq.eq g.met.S.Eq.laws items c.args.one c.args.other x.result y.result at here alike,
    )

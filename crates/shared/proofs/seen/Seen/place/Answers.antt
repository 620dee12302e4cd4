use Rattle.std.proofs.Common.{arith, ◌≡◌, length, slice_index, sym, ap, subst, ◌∙◌, lt_of_not-le}
use mathlib.Core.Logic.{dite}
use native.Mathlib.Decide.{dec_le}
use Rattle.shared.specs.Totals.{times}
use Rattle.shared.specs.Classes.{classes_of}
use Rattle.shared.specs.SeenRule.{AreAlike, Met}
use Rattle.shared.specs.SeenSeats.{view, items_of}
use Rattle.shared.proofs.ClassLemmas.{are_alike, hold-equal}
use Rattle.shared.proofs.seen.Seen.place.Goals as goal

pub returns-in-None-clause-least : goal.returns-in-None-clause-least
returns-in-None-clause-least g c = λ k met hold. dite (dec_le (length (items_of c.args.self.now)) k) (λ far. omega (arith, far, c.requires.index))
    (λ near. absurd (c.in-None.ensures.free.2 k met (subst (λ cs. AreAlike cs k c.args.index) (sym c.requires.own.1)
    (are_alike g.S.PartialEq.eq g.met.S.Eq.laws (items_of c.args.self.now) k c.args.index (lt_of_not-le near) c.requires.index hold))))

pub returns-in-Some-clause-equal : goal.returns-in-Some-clause-equal
returns-in-Some-clause-equal g c = let t = c.lower.ensures.lowered in let classes = classes_of g.S.PartialEq.eq (items_of c.args.self.now) in
    let alike : AreAlike classes t.0 c.args.index = subst (λ cs. AreAlike cs t.0 c.args.index) c.search.ensures.own.1 t.2 in
    let answer : AreAlike classes c.lower.result c.args.index = dite (dec_le t.0 c.args.index)
    (λ le. let e : c.lower.result ≡ t.0 = omega (arith, t.3, le) in ap (slice_index classes) e ∙ alike)
    (λ more. let e : c.lower.result ≡ c.args.index = omega (arith, t.3, lt_of_not-le more) in ap (slice_index classes) e) in
    hold-equal g.S.PartialEq.eq g.met.S.Eq.laws (items_of c.args.self.now) c.lower.result c.args.index answer

pub returns-in-Some-clause-least : goal.returns-in-Some-clause-least
returns-in-Some-clause-least g c = let t = c.lower.ensures.lowered in λ k met hold. dite (dec_le (length (items_of c.args.self.now)) k) (λ far. omega (arith, far, c.requires.index, t.3))
    (λ near. let still : Met (view c.search.new.seat) k = omega (arith, met, ap (times k) c.in-Some.ensures.taken.2, ap (times k) c.in-Some.ensures.taken.3) in
    let alike = subst (λ cs. AreAlike cs k c.args.index) (sym c.search.ensures.own.1) (are_alike g.S.PartialEq.eq g.met.S.Eq.laws (items_of c.args.self.now) k c.args.index (lt_of_not-le near) c.requires.index hold) in
    omega (arith, t.3, t.5 k still alike))

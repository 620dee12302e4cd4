use Rattle.std.proofs.Common.{rules, arith, ◌<◌, ap, length, refl}
use mathlib.Core.Option.{none}
use Rattle.shared.specs.declared.seen.view.SeenView.{SeenView}
use Rattle.shared.specs.Classes.{first_equal, classes_of}
use Rattle.shared.proofs.ClassLemmas.{shape-is, length-map}
use Rattle.shared.proofs.SeenKeeps.{lowers-as}
use Rattle.shared.proofs.seen.Seen.lower.Goals as goal

pub fetch_min-found-requires : goal.fetch_min-found-requires
fetch_min-found-requires g c =
    let z = c.args.self.now in let key = z.table.shared.key in
    let room : length key.items.now < key.words = omega (arith, z.room, ap length z.items_are, z.words_are.0) in
    let is = shape-is g.S.PartialEq.eq g.S.Hash.hash_input g.met.S.Eq.laws g.met.S.Hash.respects_eq key room in
    let inside : c.args.index < length (classes_of g.S.PartialEq.eq key.items.now) = omega (arith, length-map (first_equal g.S.PartialEq.eq key.items.now) key.items.now, c.requires.index) in
    (search rules, omega (arith, c.requires.word, z.words_are.0, z.words_are.1), lowers-as is _ _ _ _ c.args.index none c.args.seat.now.lives c.requires.own.1 inside c.requires.word c.requires.class)

pub overflow_sub-result : goal.overflow_sub-result
overflow_sub-result g c = let t = c.fetch_min-found.ensures.2.2 c.args.index refl in omega (arith, t.1, c.min.ensures)

pub returns-clause-lowered : goal.returns-clause-lowered
returns-clause-lowered g c = let t = c.fetch_min-found.ensures.2.2 c.args.index refl in let key = c.args.self.now.table.shared.key in
    (t.0, omega (arith, t.2, ap length c.requires.own.1, length-map (first_equal g.S.PartialEq.eq key.items.now) key.items.now), t.3, omega (arith, t.1, c.min.ensures), t.4, t.5)

pub returns-clause-known : goal.returns-clause-known
returns-clause-known g c = let t = c.fetch_min-found.ensures.2.2 c.args.index refl in ap (λ (u : SeenView). u.known) t.4

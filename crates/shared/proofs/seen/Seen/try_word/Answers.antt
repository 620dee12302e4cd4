use Rattle.std.proofs.Common.{rules, arith, ◌<◌, ap, length, map, slice_index, refl}
use mathlib.Core.Option.{none}
use Rattle.shared.specs.Classes.{first_equal, classes_of, start_of}
use Rattle.shared.proofs.ClassLemmas.{shape-is, length-map}
use Rattle.shared.proofs.SeenWords.{along-low}
use Rattle.shared.proofs.SeenKeeps.{tries-as}
use Rattle.shared.proofs.seen.Seen.try_word.Goals as goal

pub compare_exchange-requires : goal.compare_exchange-requires
compare_exchange-requires g c =
    let z = c.args.self.now in let key = z.table.shared.key in
    let room : length key.items.now < key.words = omega (arith, z.room, ap length z.items_are, z.words_are.0) in
    let is = shape-is g.S.PartialEq.eq g.S.Hash.hash_input g.met.S.Eq.laws g.met.S.Hash.respects_eq key room in
    let inside : c.args.index < length (classes_of g.S.PartialEq.eq key.items.now) = omega (arith, length-map (first_equal g.S.PartialEq.eq key.items.now) key.items.now, c.requires.index) in
    let low = along-low key.words (slice_index (map (start_of g.S.Hash.hash_input key.words) key.items.now) c.args.index) c.args.way (is.low c.args.index inside) c.requires.near in
    (search rules, omega (arith, low, c.requires.there, z.words_are.0, z.words_are.1), tries-as is _ _ _ _ c.args.index c.args.way none c.args.seat.now.lives c.requires.own.1 inside c.requires.near c.requires.there c.requires.full)

pub returns-clause-free : goal.returns-clause-free
returns-clause-free g c = λ e. c.compare_exchange.ensures.2.2 e c.args.index refl

pub returns-clause-taken : goal.returns-clause-taken
returns-clause-taken g c = λ j e. let t = c.compare_exchange.ensures.2.3 j e in let key = c.args.self.now.table.shared.key in
    (omega (arith, t.0, ap length c.requires.own.1, length-map (first_equal g.S.PartialEq.eq key.items.now) key.items.now), t.1, t.2)

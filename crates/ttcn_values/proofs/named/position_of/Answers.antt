use Rattle.std.proofs.Common.{bytes_eq, refl, rules}
use Rattle.value_types.proofs.Lists.{position-end, position-first, position-next}
use Rattle.ttcn_values.proofs.named.position_of.Goals as goal

pub loop-at-init : goal.loop-at-init
loop-at-init g c = refl

pub returns-then-eq : goal.returns-then-eq
returns-then-eq g c =
    position-first (λ thing. bytes_eq (g.T.Named.name_of thing) c.args.name.now) c.args.things.now c.loop-at.at c.index-things-at.result
    c.loop-at-test.true c.index-things-at.is (search rules) c.loop-at.invariant

pub loop-at-preserved : goal.loop-at-preserved
loop-at-preserved g c =
    position-next (λ thing. bytes_eq (g.T.Named.name_of thing) c.args.name.now) c.args.things.now c.loop-at.at c.index-things-at.result
    c.loop-at-test.true c.index-things-at.is (search rules) c.loop-at.invariant

pub returns : goal.returns
returns g c =
    position-end (λ thing. bytes_eq (g.T.Named.name_of thing) c.args.name.now) c.args.things.now c.loop-at.at c.loop-at-test.false c.loop-at.invariant

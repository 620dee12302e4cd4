use Rattle.std.proofs.Common.{sym, ap, ◌∙◌, arith}
use Rattle.config_packed.proofs.Items.{items-all, items-more}
use Rattle.config_packed.proofs.spelled.take_items.Goals as goal

pub loop-turn-preserved : goal.loop-turn-preserved
loop-turn-preserved g c =
    rw c.in_ok-push.ensures.items
    (items-more g.T.Spelled.read c.args.count c.loop-turn._turn c.loop-turn.reader c.take.new.reader _ c.loop-turn.items.items c.in_ok-take.field-0
    c.loop-turn-test.true c.in_ok-take.ensures.value c.in_ok-take.ensures.rest c.loop-turn.invariant)

pub returns-clause-value : goal.returns-clause-value
returns-clause-value g c =
    c.from_vec.ensures
    ∙ sym (ap (λ p. p.0) (items-all g.T.Spelled.read c.args.count c.loop-turn._turn c.loop-turn.reader _ c.loop-turn.items.items (omega arith) c.loop-turn.invariant))

pub returns-clause-rest : goal.returns-clause-rest
returns-clause-rest g c =
    sym (ap (λ p. p.1) (items-all g.T.Spelled.read c.args.count c.loop-turn._turn c.loop-turn.reader _ c.loop-turn.items.items (omega arith) c.loop-turn.invariant))

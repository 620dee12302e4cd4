use Rattle.std.proofs.Common.{sym, arith}
use Rattle.config_packed.proofs.Items.{items-behind, items-passed}
use Rattle.config_packed.proofs.skip.skip_items.Goals as goal

pub loop-turn-preserved : goal.loop-turn-preserved
loop-turn-preserved g c =
    items-passed g.T.Spelled.read c.args.count c.loop-turn._turn c.loop-turn.reader c.skip.new.reader _
    c.loop-turn-test.true c.skip.ensures c.loop-turn.invariant

pub returns : goal.returns
returns g c =
    sym (items-behind g.T.Spelled.read c.args.count c.loop-turn._turn c.loop-turn.reader _ (omega arith) c.loop-turn.invariant)

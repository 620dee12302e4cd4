use Rattle.std.proofs.Common.{◌+◌, drop, map}
use Rattle.check_scope.specs.internal.Tables.{said}
use Rattle.check_scope.proofs.Entries.{behind-next, names-end, names-next}
use Rattle.check_scope.proofs.scope.members.add_all.Goals as goal

pub loop-item-preserved : goal.loop-item-preserved
loop-item-preserved g c =
    let i = c.loop-item.item-index in
    let items = c.args.items.now in
    behind-next (said c.loop-item.table) (said c.insert.new.self) (said c.args.table.now) (g.T.Named.named c.item-item.result, c.args.meaning)
    (map (λ item. (g.T.Named.named item, c.args.meaning)) (drop (i + 1) items)) (map (λ item. (g.T.Named.named item, c.args.meaning)) items)
    (rw (names-next (λ item. (g.T.Named.named item, c.args.meaning)) items i c.item-item.result c.loop-item-test.true c.item-item.is) at c.loop-item.invariant)
    (rw (c.as_bytes.ensures, c.name.ensures) at c.in_ok-insert.ensures)

pub returns : goal.returns
returns g c = rw (names-end (λ item. (g.T.Named.named item, c.args.meaning)) c.args.items.now c.loop-item.item-index c.loop-item-test.false) at c.loop-item.invariant

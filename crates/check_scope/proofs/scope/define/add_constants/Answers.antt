use Rattle.std.proofs.Common.{[]}
use Rattle.check_scope.specs.internal.Checking.{least}
use Rattle.check_scope.specs.Names.{constant_entries}
use Rattle.check_scope.specs.internal.Tables.{said}
use Rattle.check_scope.proofs.Entries.{constants-end, constants-next, declared-end, left-first, left-next, rules-end}
use Rattle.check_scope.proofs.scope.define.add_constants.Goals as goal

pub loop-item-init : goal.loop-item-init
loop-item-init c = rw c.nothing-broken.ensures (left-first (least []) (said c.args.table.now) (constant_entries c.args.at 0 c.args.constants.now))

pub loop-item-preserved : goal.loop-item-preserved
loop-item-preserved c =
    left-next c.loop-item.broken c.in_ok-more.more c.and-broken.result _ (said c.loop-item.table) _ _ _ _ _
    (rw (constants-next c.args.at c.args.constants.now c.loop-item.item c.index-constants-item.result c.loop-item-test.true c.index-constants-item.is) at c.loop-item.invariant)
    c.in_ok-more.ensures.broken c.in_ok-more.ensures.said c.and-broken.ensures

pub returns-clause-broken : goal.returns-clause-broken
returns-clause-broken c =
    rules-end c.loop-item.broken (least []) (said c.loop-item.table) _ _ (rw (constants-end c.args.at c.args.constants.now c.loop-item.item c.loop-item-test.false) at c.loop-item.invariant)

pub returns-clause-said : goal.returns-clause-said
returns-clause-said c =
    declared-end c.loop-item.broken (least []) (said c.loop-item.table) _ _ (rw (constants-end c.args.at c.args.constants.now c.loop-item.item c.loop-item-test.false) at c.loop-item.invariant)

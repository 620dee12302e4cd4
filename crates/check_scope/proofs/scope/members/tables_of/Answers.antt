use Rattle.std.proofs.Common.{ap, arith, length}
use Rattle.check_scope.specs.internal.Tables.{said}
use Rattle.check_scope.proofs.Members.{none-yet, tables-end, tables-next}
use Rattle.check_scope.proofs.scope.members.tables_of.Goals as goal

pub loop-definition-init : goal.loop-definition-init
loop-definition-init c = record {
  count = ap length c.new-tables.ensures.items;
  members = rw c.new-tables.ensures.items (none-yet (said c.args.defined.now));
}

pub loop-definition-preserved : goal.loop-definition-preserved
loop-definition-preserved c = record {
  count = omega (arith, ap length c.in_ok-push.ensures.items, c.loop-definition.invariant.count, c.in_ok-push.ensures.len);
  members = tables-next (said c.args.defined.now) c.loop-definition.tables.items _ c.args.definitions.now c.loop-definition.definition-index c.in_ok-table.table c.definition-item.result
      c.loop-definition-test.true c.definition-item.is c.loop-definition.invariant.count c.loop-definition.invariant.members
      (rw c.members_of.ensures at c.in_ok-table.ensures) c.in_ok-push.ensures.items;
}

pub returns : goal.returns
returns c = tables-end (said c.args.defined.now) c.loop-definition.tables.items c.args.definitions.now c.loop-definition.definition-index c.loop-definition-test.false c.loop-definition.invariant.members

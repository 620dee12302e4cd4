use Rattle.std.proofs.Common.{ap, arith, length, refl}
use Rattle.check_scope.specs.internal.Tables.{field_by}
use Rattle.check_scope.proofs.Alongside.{alongside-end, alongside-next, alongside-none}
use Rattle.check_scope.proofs.FieldTables.{fields_named}
use Rattle.check_scope.proofs.scope.fields.fields_by_name.Goals as goal

pub loop-definition-init : goal.loop-definition-init
loop-definition-init c = record {
  count = ap length c.new-tables.ensures.items;
  tables = rw c.new-tables.ensures.items (alongside-none field_by fields_named refl);
}

pub loop-definition-preserved : goal.loop-definition-preserved
loop-definition-preserved c = record {
  count = omega (arith, ap length c.in_ok-push.ensures.items, c.loop-definition.invariant.count, c.in_ok-push.ensures.len);
  tables = alongside-next field_by fields_named c.loop-definition.tables.items _ c.args.definitions.now c.loop-definition.definition-index c.in_ok-table.table c.definition-item.result
      c.loop-definition-test.true c.definition-item.is c.loop-definition.invariant.count refl
      (rw c.fields_of.ensures at c.in_ok-table.ensures) c.in_ok-push.ensures.items c.loop-definition.invariant.tables;
}

pub returns : goal.returns
returns c = alongside-end field_by fields_named c.loop-definition.tables.items c.args.definitions.now c.loop-definition.definition-index c.loop-definition-test.false c.loop-definition.invariant.tables

use Rattle.std.proofs.Common.{◌≡◌, length, take}
use Rattle.check_scope.proofs.FieldTables.{HaveFields}
use Rattle.check_scope.proofs.scope.fields.fields_by_name.Given as goal

abbrev pub invariant-loop-definition : goal.invariant-loop-definition
invariant-loop-definition l = record {
  count : length l.tables.items ≡ l.definition-index;
  tables : HaveFields l.tables.items (take l.definition-index l.definitions);
}

use Rattle.std.proofs.Common.{◌≡◌, drop}
use Rattle.check_scope.specs.Names.{field_named}
use Rattle.check_scope.specs.internal.Tables.{field_in}
use Rattle.check_scope.proofs.FieldTables.{fields_after}
use Rattle.check_scope.proofs.field_table.FieldTable.of.Given as goal

-- the fields that are left, behind those so far, are all fields
abbrev pub invariant-loop-field : goal.invariant-loop-field
invariant-loop-field l = fields_after (field_in l.table) (drop l.field-index l.fields) ≡ (λ name. field_named name l.fn.fields)

use Rattle.std.proofs.Common.{◌∙◌, ap, sym}
use Rattle.check_scope.specs.internal.Tables.{field_in}
use Rattle.check_scope.proofs.FieldTables.{Fields, fields-end, fields-next, fields_after}
use Rattle.check_scope.proofs.field_table.FieldTable.of.Goals as goal

pub loop-field-init : goal.loop-field-init
loop-field-init c = ap (λ (found : Fields). fields_after found c.args.fields.now) c.new-table.ensures

pub loop-field-preserved : goal.loop-field-preserved
loop-field-preserved c =
    sym (fields-next (field_in c.loop-field.table) (field_in c.add.new.self) c.args.fields.now c.loop-field.field-index c.field-item.result
    c.loop-field-test.true c.field-item.is c.in_ok-add.ensures)
    ∙ c.loop-field.invariant

pub returns : goal.returns
returns c = sym (fields-end (field_in c.loop-field.table) c.args.fields.now c.loop-field.field-index c.loop-field-test.false) ∙ c.loop-field.invariant

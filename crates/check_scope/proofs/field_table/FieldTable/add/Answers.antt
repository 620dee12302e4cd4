use Rattle.std.proofs.Common.{ap, bytes_eq, is_some, sym, ◌∙◌, Bor}
use Rattle.std.specs.HashMap.{get_by}
use Rattle.std.specs.Option.{option_map}
use Rattle.ttcn_syntax.specs.declared.tree.definition.Field.{Field}
use Rattle.check_scope.specs.internal.Tables.{field_in}
use Rattle.check_scope.proofs.FieldTables.{field-is-new, map-if, some-map}
use Rattle.check_scope.proofs.field_table.FieldTable.add.Goals as goal

pub returns : goal.returns
returns c =
    field-is-new (field_in c.args.self.now) (field_in (record { fields = c.insert.new.self })) c.args.field.now
    (λ name.
    ap (option_map (λ (f : Bor Field). f.now)) (rw c.as_bytes.ensures at c.in_ok-insert.ensures.updates.0 (record c.as_bytes.result { now = name }))
    ∙ map-if (λ (f : Bor Field). f.now) (bytes_eq c.args.field.now.name name) c.args.field (get_by (λ key. bytes_eq name key.now) c.args.self.now.fields))
    (ap is_some (sym c.get.ensures) ∙ some-map (λ (f : Bor Field). f.now) c.get.result ∙ sym c.is_some.ensures ∙ c.if-is_some.false)

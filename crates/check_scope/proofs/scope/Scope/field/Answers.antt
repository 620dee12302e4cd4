use Rattle.std.proofs.Common.{ap, ◌∙◌}
use Rattle.check_scope.proofs.FieldTables.{Fields}
use Rattle.check_scope.proofs.scope.Scope.field.Goals as goal

pub returns : goal.returns
returns c =
    rw c.as_slice.ensures.value at c.field_at.ensures
    ∙ ap (λ (fields : Fields). fields c.args.name.now) (c.args.self.now.are_fields c.args.at)

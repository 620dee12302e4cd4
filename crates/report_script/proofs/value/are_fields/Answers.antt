use Rattle.std.proofs.Common.{sym, ◌∙◌}
use Rattle.check_scope.specs.Names.{fields_at}
use Rattle.report_script.proofs.Members.{no-field}
use Rattle.report_script.proofs.value.are_fields.Goals as goal

pub returns-then-is_none : goal.returns-then-is_none
returns-then-is_none c =
    sym (c.loop-name.invariant ∙ no-field c.loop-name.name-iterator _ (c.in-Some.name.now, c.in-Some.field-0-1.now) (fields_at c.args.scope.now.definitions.now c.args.at) c.in_ok-name.name (λ field. field.now) c.field.result
    c.in-Some.ensures.steps (c.in_ok-name.ensures ∙ c.as_bytes.ensures.value) c.field.ensures c.if-is_none.ensures)

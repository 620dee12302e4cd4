-- How trees are put together.
use Rattle.std.specs.Prelude.{ℕ, Bool, List}
use Rattle.ttcn_syntax.specs.declared.place.Span.{Span}
use Rattle.ttcn_syntax.specs.declared.operator.Operator.{Operator}
use Rattle.ttcn_syntax.specs.declared.tree.expression.Expr.{Expr}
use Rattle.ttcn_syntax.specs.declared.tree.expression.Link.{Link, roll-Link}
use Rattle.ttcn_syntax.specs.declared.tree.value.FieldValue.{FieldValue, roll-FieldValue}
use Rattle.ttcn_syntax.specs.declared.tree.value.Value.{Value}
use Rattle.ttcn_syntax.specs.declared.tree.template.FieldTemplate.{FieldTemplate, roll-FieldTemplate}
use Rattle.ttcn_syntax.specs.declared.tree.template.Template.{Template, roll-Template}
use Rattle.ttcn_syntax.specs.declared.tree.template.TemplateBody.{TemplateBody}
use Rattle.ttcn_syntax.specs.declared.tree.statement.Action.{Action}
use Rattle.ttcn_syntax.specs.declared.tree.statement.Alternative.{Alternative}
use Rattle.ttcn_syntax.specs.declared.tree.statement.Branch.{Branch, roll-Branch}
use Rattle.ttcn_syntax.specs.declared.tree.statement.Conditional.{Conditional, roll-Conditional}
use Rattle.ttcn_syntax.specs.declared.tree.statement.Statement.{Statement, roll-Statement}

-- an operator and the operand behind it
abbrev pub link : Operator → Expr → Link
link o e = roll-Link (record { operator = o; operand = e })

-- a field of a record literal
abbrev pub field_value : List ℕ → Value → FieldValue
field_value name v = roll-FieldValue (record { name = name; value = v })

-- a template with this body
abbrev pub template_of : TemplateBody → Bool → Template
template_of b ifpresent = roll-Template (record { body = b; ifpresent = ifpresent })

-- a field of a record template
abbrev pub field_template : List ℕ → Template → FieldTemplate
field_template name t = roll-FieldTemplate (record { name = name; template = t })

-- a statement at its place
abbrev pub statement_at : Span → Action → Statement
statement_at place a = roll-Statement (record { place = place; action = a })

-- a branch at its place
abbrev pub branch_at : Span → Alternative → Branch
branch_at place a = roll-Branch (record { place = place; alternative = a })

-- a condition with its block
abbrev pub conditional : Expr → List Statement → Conditional
conditional condition block = roll-Conditional (record { condition = condition; block = block })

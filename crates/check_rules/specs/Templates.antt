-- The rules that templates break, at what they are matched with (ES 201 873-1, 15).
use Rattle.std.specs.Prelude.{ℕ, Bool, true, false, not, ◌||◌, List, [], ◌∷◌, ◌++◌, length, map, bytes_eq, Option, Some, None}
use Rattle.std.specs.List.{flat_map, list_all, list_any}
use Rattle.ttcn_syntax.specs.declared.tree.definition.Field.{Field}
use Rattle.ttcn_syntax.specs.declared.tree.expression.ComponentRef.TheVariants as component
use Rattle.ttcn_syntax.specs.declared.tree.expression.Expr.{Expr, out-Expr}
use Rattle.ttcn_syntax.specs.declared.tree.expression.Expr.TheOpen.{Expr-F}
use Rattle.ttcn_syntax.specs.declared.tree.expression.Link.{Link}
use Rattle.ttcn_syntax.specs.declared.tree.template.Bound.{Bound}
use Rattle.ttcn_syntax.specs.declared.tree.template.Bound.TheVariants as bound
use Rattle.ttcn_syntax.specs.declared.tree.template.FieldTemplate.{FieldTemplate, fold-FieldTemplate}
use Rattle.ttcn_syntax.specs.declared.tree.template.Template.{Template, fold-Template, out-Template}
use Rattle.ttcn_syntax.specs.declared.tree.template.TemplateBody.TheOpen.{FieldTemplate-F, Template-F, TemplateBody-F}
use Rattle.ttcn_syntax.specs.declared.tree.template.TemplateBody.{TemplateBody, fold-TemplateBody, out-TemplateBody}
use Rattle.ttcn_syntax.specs.declared.tree.value.Value.{Value}
use Rattle.check_rules.specs.Calls.{check_arguments, lone_arguments, parameters_of, template_type}
use Rattle.check_rules.specs.Expressions.{expression}
use Rattle.check_scope.specs.Names.{Scope, kind_at}
use Rattle.check_scope.specs.Typings.{fits, typed, unless}
use Rattle.check_rules.specs.Values.{AtTarget, check_expression, by_name, in_order, is_full, takes_braces, wanted_fields}
use Rattle.check_scope.specs.declared.names.Meaning.{Meaning}
use Rattle.check_scope.specs.declared.names.Meaning.TheVariants as meaning
use Rattle.check_scope.specs.declared.rule.Rule.{Rule}
use Rattle.check_scope.specs.declared.rule.Rule.TheVariants as rule
use Rattle.check_scope.specs.declared.types.DataType.{DataType}
use Rattle.check_scope.specs.declared.types.DataType.TheVariants as type
use Rattle.check_scope.specs.declared.types.Target.{Target}
use Rattle.check_scope.specs.declared.types.Typing.{Typing}
use Rattle.check_scope.specs.declared.types.Typing.TheVariants as typing

-- ---- named templates

-- the position of the template that a name stands for
abbrev pub template_meant : Option Meaning → Option ℕ
template_meant (Some (meaning.Template at)) = Some at
template_meant _ = None

-- the name that an expression is and nothing more
abbrev pub whole_name : List (List ℕ) → List ℕ → Option (List ℕ)
whole_name [] name = Some name
whole_name (field ∷ fields) name = None

-- the name that the outermost level of an expression is, if it is a reference without fields
abbrev pub bare_name : Expr-F Expr Link → Option (List ℕ)
bare_name (Expr-F.Reference (component.Named reference)) = whole_name reference.fields reference.name
bare_name _ = None

-- the template that a name stands for, where there is a name
abbrev pub template_by_name : Scope → Option (List ℕ) → Option ℕ
template_by_name scope None = None
template_by_name scope (Some name) = template_meant (scope.names name)

-- the template that an expression names without arguments: its bare name has to be that of a template
abbrev pub template_named : Scope → Expr → Option ℕ
template_named scope e = template_by_name scope (bare_name (out-Expr e))

-- the type of the template at a position, if one stands there and its type is known
abbrev pub type_of_template : Scope → ℕ → Option DataType
type_of_template scope at = template_type scope.definitions (kind_at scope.definitions at)

-- a template with arguments, where a template of a type is wanted
abbrev pub check_named_template : Scope → Target → List Value → Option ℕ → List Rule
check_named_template scope target given None = rule.UnknownName ∷ lone_arguments scope given
check_named_template scope target given (Some at) =
    check_arguments scope (parameters_of (kind_at scope.definitions at)) given ++
    unless (fits target.data_type (typed (type_of_template scope at))) rule.ValueType

-- an expression, or the name of a template
abbrev pub check_name : Scope → Target → Expr → Option ℕ → List Rule
check_name scope target e None = check_expression scope target.data_type e
check_name scope target e (Some at) = check_named_template scope target [] (Some at)

-- ---- ranges

-- the rules that a bound of a range breaks: its expression is an integer, and `infinity` breaks none
abbrev pub check_bound : Scope → Bound → List Rule
check_bound scope (bound.Expr e) = check_expression scope (Some type.Integer) e
check_bound scope bound.Infinity = []

-- integers are wanted, and the bounds are integers
abbrev pub check_range : Scope → Target → Bound → Bound → List Rule
check_range scope target low high = unless (fits target.data_type (typing.Known type.Integer)) rule.ValueType ++ check_bound scope low ++ check_bound scope high

-- ---- templates

-- each field has an element: not judged where the fields aren't known
abbrev pub has_all : Option (List Field) → List (List ℕ) → Bool
has_all None names = true
has_all (Some fields) names = list_all (λ field. list_any (bytes_eq field.name) names) fields

-- the rules that parts break which stand for the same target
abbrev pub each : List AtTarget → AtTarget
each parts scope target = flat_map (λ part. part scope target) parts

-- the rules that one level of a template body breaks at a target, its parts' rules given
abbrev pub body_step : TemplateBody-F AtTarget (List ℕ × AtTarget) AtTarget → AtTarget
body_step TemplateBody-F.Any scope target = []
body_step TemplateBody-F.AnyOrOmit scope target = unless target.optional rule.Fields
body_step TemplateBody-F.Omit scope target = unless target.optional rule.Fields
body_step (TemplateBody-F.Complement parts) scope target = each parts scope target
body_step (TemplateBody-F.List parts) scope target = each parts scope target
body_step (TemplateBody-F.Range low high) scope target = check_range scope target low high
body_step (TemplateBody-F.Call call) scope target = check_named_template scope target call.arguments (template_meant (scope.names call.name))
body_step (TemplateBody-F.Expr e) scope target = check_name scope target e (template_named scope e)
body_step (TemplateBody-F.Listed parts) scope target =
    unless (takes_braces target.data_type) rule.ValueType ++
    unless (is_full (wanted_fields scope.definitions target.data_type) (length parts)) rule.Fields ++
    in_order (wanted_fields scope.definitions target.data_type) parts scope
body_step (TemplateBody-F.Assigned parts) scope target =
    unless (takes_braces target.data_type) rule.ValueType ++
    unless (has_all (wanted_fields scope.definitions target.data_type) (map (λ part. part.0) parts)) rule.Fields ++
    by_name (wanted_fields scope.definitions target.data_type) [] parts scope

-- the rules of a template, those of its body given: `ifpresent` stands only where `omit` may stand
abbrev pub template_step : Template-F AtTarget (List ℕ × AtTarget) AtTarget → AtTarget
template_step t scope target = t.body scope target ++ unless (not t.ifpresent || target.optional) rule.Fields

-- an element of a template by field names: the name, with the rules of its template, which are given
abbrev pub field_template_step : FieldTemplate-F AtTarget (List ℕ × AtTarget) AtTarget → List ℕ × AtTarget
field_template_step part = (part.name, part.template)

-- the rules that a template breaks, but for its `ifpresent`
abbrev pub body : TemplateBody → AtTarget
body = fold-TemplateBody AtTarget (List ℕ × AtTarget) AtTarget body_step field_template_step template_step

-- the name of an element, with the rules that its template breaks
abbrev pub field_template : FieldTemplate → List ℕ × AtTarget
field_template = fold-FieldTemplate AtTarget (List ℕ × AtTarget) AtTarget body_step field_template_step template_step

-- the rules that a template breaks
abbrev pub template : Template → AtTarget
template = fold-Template AtTarget (List ℕ × AtTarget) AtTarget body_step field_template_step template_step

-- ---- the type of a template by itself

-- what is known of it, where it says something: an expression and a named template do
abbrev pub typing_at_name : Scope → Expr → Option ℕ → Typing
typing_at_name scope e None = (expression e scope false).typing
typing_at_name scope e (Some at) = typed (type_of_template scope at)

-- the typing of the template at a position, unknown where none is meant
abbrev pub typing_by_position : Scope → Option ℕ → Typing
typing_by_position scope None = typing.Unknown
typing_by_position scope (Some at) = typed (type_of_template scope at)

-- the typing that a template body has by itself, where it is an expression or a template with arguments
abbrev pub typing_of_body : Scope → TemplateBody-F TemplateBody FieldTemplate Template → Option Typing
typing_of_body scope (TemplateBody-F.Expr e) = Some (typing_at_name scope e (template_named scope e))
typing_of_body scope (TemplateBody-F.Call call) = Some (typing_by_position scope (template_meant (scope.names call.name)))
typing_of_body scope _ = None

-- the typing that a template has by itself, where its body has one
abbrev pub typing_of_template : Scope → Template → Option Typing
typing_of_template scope t = typing_of_body scope (out-TemplateBody (out-Template t).body)

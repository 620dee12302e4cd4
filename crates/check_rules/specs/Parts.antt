-- What constants, templates and altsteps refer to, and of how many parts they are.
use Rattle.std.specs.Prelude.{ℕ, ◌+◌, List, [], ◌∷◌, ◌++◌, length, map, take, Option, Some, None}
pub use Rattle.check_survey.specs.Things.{beside, leaf, parts}
use Rattle.check_survey.specs.declared.thing.Thing.{Thing}
use Rattle.ttcn_syntax.specs.declared.tree.definition.Definition.{Definition}
use Rattle.ttcn_syntax.specs.declared.tree.definition.DefinitionKind.{DefinitionKind}
use Rattle.ttcn_syntax.specs.declared.tree.definition.DefinitionKind.TheVariants as kind
use Rattle.ttcn_syntax.specs.declared.tree.definition.Field.{Field}
use Rattle.ttcn_syntax.specs.declared.tree.expression.ComponentRef.{ComponentRef}
use Rattle.ttcn_syntax.specs.declared.tree.expression.ComponentRef.TheVariants as component
use Rattle.ttcn_syntax.specs.declared.tree.expression.Expr.{Expr, fold-Expr}
use Rattle.ttcn_syntax.specs.declared.tree.expression.Expr.TheOpen.{Expr-F, Link-F}
use Rattle.ttcn_syntax.specs.declared.tree.expression.Link.{Link, fold-Link}
use Rattle.ttcn_syntax.specs.declared.tree.statement.Alternative.{Alternative, out-Alternative}
use Rattle.ttcn_syntax.specs.declared.tree.statement.Action.{Action}
use Rattle.ttcn_syntax.specs.declared.tree.statement.Action.TheOpen.{Alternative-F}
use Rattle.ttcn_syntax.specs.declared.tree.statement.Branch.{Branch, out-Branch}
use Rattle.ttcn_syntax.specs.declared.tree.statement.Conditional.{Conditional}
use Rattle.ttcn_syntax.specs.declared.tree.statement.Constant.{Constant}
use Rattle.ttcn_syntax.specs.declared.tree.statement.Statement.{Statement}
use Rattle.ttcn_syntax.specs.declared.tree.template.Bound.{Bound}
use Rattle.ttcn_syntax.specs.declared.tree.template.Bound.TheVariants as bound
use Rattle.ttcn_syntax.specs.declared.tree.template.FieldTemplate.{FieldTemplate, fold-FieldTemplate}
use Rattle.ttcn_syntax.specs.declared.tree.template.Template.{Template, fold-Template}
use Rattle.ttcn_syntax.specs.declared.tree.template.TemplateBody.TheOpen.{FieldTemplate-F, Template-F, TemplateBody-F}
use Rattle.ttcn_syntax.specs.declared.tree.value.Call.{Call}
use Rattle.ttcn_syntax.specs.declared.tree.value.FieldValue.{FieldValue, fold-FieldValue}
use Rattle.ttcn_syntax.specs.declared.tree.value.Value.{Value, fold-Value}
use Rattle.ttcn_syntax.specs.declared.tree.value.Value.TheOpen.{FieldValue-F, Value-F}
use Rattle.check_rules.specs.Calls.{altstep_meant}
use Rattle.check_scope.specs.Scopes.{module_scope}
use Rattle.check_rules.specs.Definitions.{with_parameters}
use Rattle.check_scope.specs.Names.{Scope, module_names, resolved}
use Rattle.check_rules.specs.Templates.{template_meant, template_named}
use Rattle.check_scope.specs.declared.names.Meaning.{Meaning}
use Rattle.check_scope.specs.declared.names.Meaning.TheVariants as meaning
use Rattle.check_scope.specs.declared.types.DataType.{DataType}
use Rattle.check_scope.specs.declared.types.DataType.TheVariants as type

-- ---- parts

-- things one beside the other: all their own parts, and all that they refer to
abbrev pub all_of : List Thing → Thing
all_of [] = parts 0 []
all_of (thing ∷ things) = beside thing (all_of things)

-- what stands in braces: a leaf where there is nothing
abbrev pub braced : List Thing → Thing
braced [] = leaf
braced (thing ∷ things) = all_of (thing ∷ things)

-- ---- constants and templates are numbered in the order of the text

-- how many numbers a definition takes: one for each constant of a declaration, one for any other definition
abbrev pub how_many : DefinitionKind → ℕ
how_many (kind.Constants cs) = length cs.constants
how_many _ = 1

-- how many numbers these definitions take together
abbrev pub how_many_in : List Definition → ℕ
how_many_in [] = 0
how_many_in (definition ∷ definitions) = how_many definition.kind + how_many_in definitions

-- the number of the first constant, or of the template, that is defined at a position
abbrev pub number_at : List Definition → ℕ → ℕ
number_at definitions at = how_many_in (take at definitions)

-- ---- expressions and values

-- what a name is made of: a constant of the module is referred to, and any other name is a leaf
abbrev pub of_meaning : List Definition → Option Meaning → Thing
of_meaning definitions (Some (meaning.ModuleConstant at item)) = parts 0 ((number_at definitions at + item) ∷ [])
of_meaning definitions _ = leaf

-- what `self`, `mtc` or a reference is made of: the first two are leaves, the last is what its name is made of
abbrev pub of_component : Scope → ComponentRef → Thing
of_component scope component.Itself = leaf
of_component scope component.Mtc = leaf
of_component scope (component.Named reference) = of_meaning scope.definitions (scope.names reference.name)

-- what one level of an expression is made of, given what its operands are made of
abbrev pub expression_parts_step : Scope → Expr-F Thing Thing → Thing
expression_parts_step scope (Expr-F.Int n) = leaf
expression_parts_step scope (Expr-F.Bool b) = leaf
expression_parts_step scope Expr-F.Null = leaf
expression_parts_step scope (Expr-F.Reference reference) = of_component scope reference
expression_parts_step scope (Expr-F.Running reference) = of_component scope reference
expression_parts_step scope (Expr-F.Ispresent reference) = of_meaning scope.definitions (scope.names reference.name)
expression_parts_step scope (Expr-F.Not operand) = operand
expression_parts_step scope (Expr-F.Signed sign operand) = operand
expression_parts_step scope (Expr-F.Chain first links) = beside first (all_of links)

-- what one link of a chain is made of: what its operand is made of, which is given
abbrev pub link_parts_step : Link-F Thing Thing → Thing
link_parts_step link = link.operand

-- what an expression is made of: its operands, and the module's constants that it refers to
abbrev pub expression_parts : Scope → Expr → Thing
expression_parts scope = fold-Expr Thing Thing (expression_parts_step scope) link_parts_step

-- what one link of a chain is made of: its operand
abbrev pub link_parts : Scope → Link → Thing
link_parts scope = fold-Link Thing Thing (expression_parts_step scope) link_parts_step

-- what one level of a value is made of, given what its elements are made of
abbrev pub value_parts_step : Scope → Value-F Thing Thing → Thing
value_parts_step scope (Value-F.Expr e) = expression_parts scope e
value_parts_step scope Value-F.Omit = leaf
value_parts_step scope (Value-F.Listed elements) = braced elements
value_parts_step scope (Value-F.Assigned elements) = braced elements

-- what an element by field names is made of: what its value is made of, which is given
abbrev pub field_value_parts_step : FieldValue-F Thing Thing → Thing
field_value_parts_step element = element.value

-- what a value is made of: its elements, and the module's constants that it refers to
abbrev pub value_parts : Scope → Value → Thing
value_parts scope = fold-Value Thing Thing (value_parts_step scope) field_value_parts_step

-- what an element of a value by field names is made of: its value
abbrev pub field_value_parts : Scope → FieldValue → Thing
field_value_parts scope = fold-FieldValue Thing Thing (value_parts_step scope) field_value_parts_step

-- what a constant is made of: its value
abbrev pub constant_parts : Scope → Constant → Thing
constant_parts scope constant = value_parts scope constant.value

-- ---- templates

-- what a bound of a range is made of: its expression, and `infinity` is a leaf
abbrev pub of_bound : Scope → Bound → Thing
of_bound scope (bound.Expr e) = expression_parts scope e
of_bound scope bound.Infinity = leaf

-- a reference to the template at a position, or nothing where none is meant
abbrev pub of_template : List Definition → Option ℕ → Thing
of_template definitions None = parts 0 []
of_template definitions (Some at) = parts 0 (number_at definitions at ∷ [])

-- an expression, or the name of a template
abbrev pub of_name : Scope → Expr → Option ℕ → Thing
of_name scope e None = expression_parts scope e
of_name scope e (Some at) = of_template scope.definitions (Some at)

-- a template with arguments
abbrev pub call_parts : Scope → Call → Thing
call_parts scope call = beside (of_template scope.definitions (template_meant (scope.names call.name))) (all_of (map (value_parts scope) call.arguments))

-- what one level of a template body is made of, given what its parts are made of
abbrev pub body_parts_step : Scope → TemplateBody-F Thing Thing Thing → Thing
body_parts_step scope TemplateBody-F.Any = leaf
body_parts_step scope TemplateBody-F.AnyOrOmit = leaf
body_parts_step scope TemplateBody-F.Omit = leaf
body_parts_step scope (TemplateBody-F.Complement elements) = all_of elements
body_parts_step scope (TemplateBody-F.List elements) = all_of elements
body_parts_step scope (TemplateBody-F.Range low high) = beside (of_bound scope low) (of_bound scope high)
body_parts_step scope (TemplateBody-F.Call call) = call_parts scope call
body_parts_step scope (TemplateBody-F.Expr e) = of_name scope e (template_named scope e)
body_parts_step scope (TemplateBody-F.Listed elements) = braced elements
body_parts_step scope (TemplateBody-F.Assigned elements) = braced elements

-- what a template is made of: what its body is made of, which is given
abbrev pub template_parts_step : Template-F Thing Thing Thing → Thing
template_parts_step t = t.body

-- what an element by field names is made of: what its template is made of, which is given
abbrev pub field_template_parts_step : FieldTemplate-F Thing Thing Thing → Thing
field_template_parts_step element = element.template

-- what a template is made of: its parts, and the module's constants and templates that it refers to
abbrev pub template_parts : Scope → Template → Thing
template_parts scope = fold-Template Thing Thing Thing (body_parts_step scope) field_template_parts_step template_parts_step

-- what an element of a template by field names is made of: its template
abbrev pub field_template_parts : Scope → FieldTemplate → Thing
field_template_parts scope = fold-FieldTemplate Thing Thing Thing (body_parts_step scope) field_template_parts_step template_parts_step

-- ---- constants and templates, written out

-- each constant and each template; what else is defined has no parts
abbrev pub things_at : List Definition → DefinitionKind → List Thing
things_at definitions (kind.Constants cs) = map (constant_parts (module_scope definitions)) cs.constants
things_at definitions (kind.Template t) = template_parts (with_parameters (module_scope definitions) t.parameters) t.template ∷ []
things_at definitions _ = parts 0 [] ∷ []

-- what some definitions of a module are made of, one definition behind the other
abbrev pub things_from : List Definition → List Definition → List Thing
things_from all [] = []
things_from all (definition ∷ definitions) = things_at all definition.kind ++ things_from all definitions

-- the constants and templates of a module
abbrev pub constants_and_templates : List Definition → List Thing
constants_and_templates definitions = things_from definitions definitions

-- ---- records

-- a field: a leaf, or what the record has
abbrev pub field_part : Option DataType → Thing
field_part (Some (type.Record at)) = parts 0 (at ∷ [])
field_part _ = leaf

-- what a field is made of, by its type
abbrev pub part_of_field : List Definition → Field → Thing
part_of_field definitions field = field_part (resolved (module_names definitions) field.type_name)

-- what a record type is made of: its fields, and nothing for any other definition
abbrev pub record_parts : List Definition → DefinitionKind → Thing
record_parts definitions (kind.Record r) = braced (map (part_of_field definitions) r.fields)
record_parts definitions _ = parts 0 []

-- the records of a module, by the positions of the definitions
abbrev pub records : List Definition → List Thing
records definitions = map (λ definition. record_parts definitions definition.kind) definitions

-- ---- altsteps

-- a branch: the altstep that it calls, or one branch
abbrev pub altstep_part : Option ℕ → Thing
altstep_part None = leaf
altstep_part (Some at) = parts 0 (at ∷ [])

-- what stands in a branch: a reference to the altstep that it calls, or else one branch
abbrev pub alternative_parts : List Definition → Alternative-F Action Alternative Branch Conditional Statement → Thing
alternative_parts definitions (Alternative-F.«Alternative::Event» guard event block) = leaf
alternative_parts definitions (Alternative-F.«Alternative::Call» guard call block) = altstep_part (altstep_meant (module_names definitions call.name))
alternative_parts definitions (Alternative-F.Else block) = leaf

-- what a branch is made of: a reference to the altstep that it calls, or else one branch
abbrev pub branch_parts : List Definition → Branch → Thing
branch_parts definitions b = alternative_parts definitions (out-Alternative (out-Branch b).alternative)

-- what an altstep is made of: its branches, and nothing for any other definition
abbrev pub altstep_parts : List Definition → DefinitionKind → Thing
altstep_parts definitions (kind.Altstep a) = all_of (map (branch_parts definitions) a.branches)
altstep_parts definitions _ = parts 0 []

-- the altsteps of a module, by the positions of the definitions
abbrev pub altsteps : List Definition → List Thing
altsteps definitions = map (λ definition. altstep_parts definitions definition.kind) definitions

-- The types of expressions, and the rules that are broken in them (ES 201 873-1, 7).
use Rattle.std.specs.Prelude.{ℕ, Bool, true, false, ◌&&◌, List, [], ◌∷◌, ◌++◌, Option, Some, None, if◌then◌else◌}
use Rattle.ttcn_syntax.specs.declared.operator.Operator.{Operator}
use Rattle.ttcn_syntax.specs.declared.tree.definition.Definition.{Definition}
use Rattle.ttcn_syntax.specs.declared.tree.definition.Field.{Field}
use Rattle.ttcn_syntax.specs.declared.tree.expression.ComponentRef.{ComponentRef}
use Rattle.ttcn_syntax.specs.declared.tree.expression.ComponentRef.TheVariants as component
use Rattle.ttcn_syntax.specs.declared.tree.expression.Expr.{Expr, fold-Expr}
use Rattle.ttcn_syntax.specs.declared.tree.expression.Expr.TheOpen.{Expr-F, Link-F}
use Rattle.ttcn_syntax.specs.declared.tree.expression.Link.{Link, fold-Link}
use Rattle.ttcn_syntax.specs.declared.tree.expression.Reference.{Reference}
use Rattle.check_scope.specs.Names.{Scope, constants_type, field_named, fields_at, kind_at, module_names, resolved}
use Rattle.check_scope.specs.Typings.{comparable, compares, is_of, operands_of, refers_to_component, result_of, typed, unless}
use Rattle.check_scope.specs.declared.names.Meaning.{Meaning}
use Rattle.check_scope.specs.declared.names.Meaning.TheVariants as meaning
use Rattle.check_scope.specs.declared.rule.Rule.{Rule}
use Rattle.check_scope.specs.declared.rule.Rule.TheVariants as rule
use Rattle.check_scope.specs.declared.types.DataType.{DataType}
use Rattle.check_scope.specs.declared.types.DataType.TheVariants as type
use Rattle.check_scope.specs.declared.types.Typing.{Typing}
use Rattle.check_scope.specs.declared.types.Typing.TheVariants as typing

-- what is said of an expression: what is known of its type, and the rules that are broken in it
pub record Judgement : Type 0 where
  pub typing : Typing
  pub broken : List Rule

-- nothing is broken
abbrev pub fine : Typing → Judgement
fine t = record { typing = t; broken = [] }

-- a rule is broken, so that the type is not known
abbrev pub wrong : Rule → Judgement
wrong r = record { typing = typing.Unknown; broken = r ∷ [] }

-- an operation is of its type whether its demand is kept or not
abbrev pub demand : Bool → Rule → DataType → Judgement
demand kept r t = record { typing = typing.Known t; broken = unless kept r }

-- a judgement with the rules that are broken before it in front of its own
abbrev pub after : List Rule → Judgement → Judgement
after before judged = record { typing = judged.typing; broken = before ++ judged.broken }

-- ---- references

-- what a name stands for as a value
abbrev pub check_meaning : List Definition → Option Meaning → Judgement
check_meaning definitions (Some (meaning.Variable t)) = fine (typed t)
check_meaning definitions (Some (meaning.Constant t)) = fine (typed t)
check_meaning definitions (Some (meaning.ModuleConstant at item)) = fine (typed (constants_type (module_names definitions) (kind_at definitions at)))
check_meaning definitions (Some (meaning.Enumerator at)) = fine (typing.Known (type.Enumerated at))
check_meaning definitions (Some (meaning.Port at)) = fine typing.NoValue
check_meaning definitions (Some meaning.Timer) = fine typing.NoValue
check_meaning definitions _ = wrong rule.UnknownName

-- what a field of a record is
abbrev pub check_field : List Definition → Option Field → Judgement
check_field definitions None = wrong rule.Fields
check_field definitions (Some field) = fine (typed (resolved (module_names definitions) field.type_name))

-- what is said of a field of something
abbrev pub within : List Definition → Typing → List ℕ → Judgement
within definitions (typing.Known (type.Record at)) name = check_field definitions (field_named name (fields_at definitions at))
within definitions typing.Unknown name = fine typing.Unknown
within definitions _ name = wrong rule.Fields

-- what is said of fields of fields
abbrev pub along : List Definition → Typing → List (List ℕ) → Judgement
along definitions t [] = fine t
along definitions t (name ∷ names) =
    let found = within definitions t name in after found.broken (along definitions found.typing names)

-- what is said of a name with the fields behind it: the typing of the last one, and all rules that are broken
abbrev pub check_reference : Scope → Reference → Judgement
check_reference scope reference =
    let found = check_meaning scope.definitions (scope.names reference.name) in
    after found.broken (along scope.definitions found.typing reference.fields)

-- `mtc`, or `self` of no known type: only where these may stand
abbrev pub any_component : Bool → Judgement
any_component free = record { typing = typing.AnyComponent; broken = unless free rule.MtcPlace }

-- `self`
abbrev pub check_self : Option ℕ → Bool → Judgement
check_self (Some at) free = fine (typing.Known (type.Component at))
check_self None free = any_component free

-- what is said of `self`, `mtc` or a reference: `mtc`, and `self` of no known type, only where they may stand
abbrev pub check_component : Scope → ComponentRef → Bool → Judgement
check_component scope component.Itself free = check_self scope.itself free
check_component scope component.Mtc free = any_component free
check_component scope (component.Named reference) free = check_reference scope reference

-- what is said of a reference where a component is wanted: `mtc` may stand there
abbrev pub check_wanted_component : Scope → ComponentRef → Judgement
check_wanted_component scope reference =
    let found = check_component scope reference true in
    after found.broken (record { typing = found.typing; broken = unless (refers_to_component found.typing) rule.UnknownName })

-- a name without fields stands for a timer
abbrev pub is_timer : List (List ℕ) → Option Meaning → Bool
is_timer [] (Some meaning.Timer) = true
is_timer _ _ = false

-- a reference is the name of a timer without fields: `self` and `mtc` are not
abbrev pub names_timer : Scope → ComponentRef → Bool
names_timer scope (component.Named reference) = is_timer reference.fields (scope.names reference.name)
names_timer scope _ = false

-- whether a component runs
abbrev pub runs : Typing → Judgement
runs found = demand (refers_to_component found) rule.UnknownName type.Boolean

-- `.running`, of a timer or a component
abbrev pub check_running : Scope → ComponentRef → Judgement
check_running scope reference =
    if names_timer scope reference then fine (typing.Known type.Boolean)
    else (let found = check_component scope reference true in after found.broken (runs found.typing))

-- a reference names a field
abbrev pub names_field : List (List ℕ) → Bool
names_field [] = false
names_field (field ∷ fields) = true

-- `ispresent`, of a field
abbrev pub check_ispresent : Scope → Reference → Judgement
check_ispresent scope reference = after (check_reference scope reference).broken (demand (names_field reference.fields) rule.Fields type.Boolean)

-- ---- operators

-- an operand that must be of a type, which is that of the whole
abbrev pub of_type : DataType → Typing → Judgement
of_type wanted found = demand (is_of wanted found) rule.OperandType wanted

-- what is said of an operand that must be of a type, its own broken rules first
abbrev pub operand : DataType → Judgement → Judgement
operand wanted judged = after judged.broken (of_type wanted judged.typing)

-- an operator takes two operands: `==` and `!=` compare them, each other operator takes each by itself
abbrev pub takes : Operator → Typing → Typing → Bool
takes op left right = if compares op then comparable left right else (is_of (operands_of op) left && is_of (operands_of op) right)

-- an operator between two operands
abbrev pub between : Operator → Typing → Typing → Judgement
between op left right = demand (takes op left right) rule.OperandType (result_of op)

-- ---- expressions

-- what is said of an expression in a scope: `mtc`, and `self` of no known type, may stand free as the whole of it, or not
abbrev pub Judge : Type 0
Judge = Scope → Bool → Judgement

-- one link of a chain behind what is said of those before it
abbrev pub join_link : Operator → Judge → Judge → Judge
join_link op left right scope free =
    let l = left scope (compares op) in
    let r = right scope (compares op) in
    after l.broken (after r.broken (between op l.typing r.typing))

-- operands with operators between them, from the left
abbrev pub join_links : Judge → List (Operator × Judge) → Judge
join_links first [] = first
join_links first (link ∷ links) = join_links (join_link link.0 first link.1) links

-- what is said of one level of an expression, given what is said of its operands
abbrev pub expression_step : Expr-F Judge (Operator × Judge) → Judge
expression_step (Expr-F.Int n) scope free = fine (typing.Known type.Integer)
expression_step (Expr-F.Bool b) scope free = fine (typing.Known type.Boolean)
expression_step Expr-F.Null scope free = fine typing.Null
expression_step (Expr-F.Reference reference) scope free = check_component scope reference free
expression_step (Expr-F.Running reference) scope free = check_running scope reference
expression_step (Expr-F.Ispresent reference) scope free = check_ispresent scope reference
expression_step (Expr-F.Not judgement) scope free = operand type.Boolean (judgement scope false)
expression_step (Expr-F.Signed sign judgement) scope free = operand type.Integer (judgement scope false)
expression_step (Expr-F.Chain first links) scope free = join_links first links scope free

-- what is said of one link of a chain: its operator, with what is said of its operand, which is given
abbrev pub link_step : Link-F Judge (Operator × Judge) → Operator × Judge
link_step link = (link.operator, link.operand)

-- what is said of an expression
abbrev pub expression : Expr → Judge
expression = fold-Expr Judge (Operator × Judge) expression_step link_step

-- an operator with what is said of the operand behind it
abbrev pub link : Link → Operator × Judge
link = fold-Link Judge (Operator × Judge) expression_step link_step

-- The rules that declarations, assignments and what they store break (ES 201 873-1, 8 and 19.1).
use Rattle.std.specs.Prelude.{ℕ, Bool, true, false, List, [], ◌∷◌, ◌++◌, Option, Some, None, is_none, is_some}
use Rattle.ttcn_syntax.specs.declared.tree.definition.Definition.{Definition}
use Rattle.ttcn_syntax.specs.declared.tree.definition.Field.{Field}
use Rattle.ttcn_syntax.specs.declared.tree.expression.Reference.{Reference}
use Rattle.ttcn_syntax.specs.declared.tree.statement.Assignment.{Assignment}
use Rattle.ttcn_syntax.specs.declared.tree.statement.Constant.{Constant}
use Rattle.ttcn_syntax.specs.declared.tree.statement.Constants.{Constants}
use Rattle.ttcn_syntax.specs.declared.tree.statement.Timer.{Timer}
use Rattle.ttcn_syntax.specs.declared.tree.statement.Variable.{Variable}
use Rattle.ttcn_syntax.specs.declared.tree.statement.Variables.{Variables}
use Rattle.ttcn_syntax.specs.declared.tree.value.Rhs.{Rhs}
use Rattle.ttcn_syntax.specs.declared.tree.value.Rhs.TheVariants as rhs
use Rattle.ttcn_syntax.specs.declared.tree.value.TypeName.{TypeName}
use Rattle.ttcn_syntax.specs.declared.tree.value.TypeName.TheVariants as type_name
use Rattle.check_rules.specs.Calls.{check_activation, check_call, behaviour_meant, gives_value, result_type_of, result_typing}
use Rattle.check_rules.specs.Declarations.{behind_all, one_by_one}
use Rattle.check_rules.specs.Expressions.{Judgement, after, along, check_meaning, within}
use Rattle.check_scope.specs.Names.{Entry, Names, Scope, component_meant, field_named, fields_at, kind_at, resolved, type_meant}
use Rattle.check_scope.specs.Typings.{fits, target_of, typed, unless}
use Rattle.check_rules.specs.Values.{value}
use Rattle.check_scope.specs.declared.names.Meaning.{Meaning}
use Rattle.check_scope.specs.declared.names.Meaning.TheVariants as meaning
use Rattle.check_scope.specs.declared.rule.Rule.{Rule}
use Rattle.check_scope.specs.declared.rule.Rule.TheVariants as rule
use Rattle.check_scope.specs.declared.types.DataType.{DataType}
use Rattle.check_scope.specs.declared.types.DataType.TheVariants as type
use Rattle.check_scope.specs.declared.types.Target.{Target}
use Rattle.check_scope.specs.declared.types.Typing.{Typing}
use Rattle.check_scope.specs.declared.types.Typing.TheVariants as typing
use Rattle.check_scope.specs.Typings.{type_known}

-- ---- declarations

-- the type of what is declared: `default` for variables and parameters alone
abbrev pub check_type : Names → Bool → TypeName → List Rule
check_type names with_default type_name.Integer = []
check_type names with_default type_name.Boolean = []
check_type names with_default type_name.Default = unless with_default rule.BadType
check_type names with_default (type_name.Named name) = unless (is_some (type_meant (names name))) rule.UnknownName

-- a new name: no visible one
abbrev pub check_new_name : Names → List ℕ → List Rule
check_new_name names new = unless (is_none (names new)) rule.DuplicateName

-- ---- what stands on the right of `:=`

-- what is known of the result of a call
abbrev pub call_typing : Scope → Option ℕ → Typing
call_typing scope None = typing.Unknown
call_typing scope (Some at) = result_typing scope (result_type_of (kind_at scope.definitions at))

-- a new component of the type that a name stands for
abbrev pub check_created : Option DataType → Option ℕ → List Rule
check_created wanted None = rule.UnknownName ∷ []
check_created wanted (Some at) = unless (fits wanted (typing.Known (type.Component at))) rule.ValueType

-- the rules that a right side breaks at a target: a value, a new component, a call or an `activate`
abbrev pub check_rhs : Scope → Target → Rhs → List Rule
check_rhs scope target (rhs.Value v) = value v scope target
check_rhs scope target (rhs.Create name) = check_created target.data_type (component_meant (scope.names name))
check_rhs scope target (rhs.Call call) = check_call scope gives_value call ++
    unless (fits target.data_type (call_typing scope (behaviour_meant (scope.names call.name)))) rule.ValueType
check_rhs scope target (rhs.Activate call) = check_activation scope call ++ unless (fits target.data_type (typing.Known type.Default)) rule.ValueType

-- an initial value, if there is one
abbrev pub check_initial : Scope → Target → Option Rhs → List Rule
check_initial scope target None = []
check_initial scope target (Some right) = check_rhs scope target right

-- ---- variables, constants and timers

-- a variable of a type: visible behind its own part of the declaration
abbrev pub check_variable : Option DataType → Scope → Variable → List Rule
check_variable of scope variable = check_new_name scope.names variable.name ++ check_initial scope (target_of of) variable.value

-- the entry of a variable: its name stands for a variable of this type
abbrev pub variable_entry : Option DataType → Scope → Variable → Entry
variable_entry of scope variable = (variable.name, meaning.Variable of)

-- the rules that a declaration of variables breaks: those of its type, and of each variable in its order
abbrev pub check_variables : Scope → Variables → List Rule
check_variables scope vs = check_type scope.names true vs.type_name ++
    one_by_one (check_variable (resolved scope.names vs.type_name)) (variable_entry (resolved scope.names vs.type_name)) scope vs.variables

-- the scope behind a declaration of variables
abbrev pub behind_variables : Scope → Variables → Scope
behind_variables scope vs = behind_all (variable_entry (resolved scope.names vs.type_name)) scope vs.variables

-- a constant of a type: its name is new, and its value is of this type
abbrev pub check_constant : Option DataType → Scope → Constant → List Rule
check_constant of scope constant = check_new_name scope.names constant.name ++ value constant.value scope (target_of of)

-- the entry of a constant: its name stands for a constant of this type
abbrev pub constant_entry : Option DataType → Scope → Constant → Entry
constant_entry of scope constant = (constant.name, meaning.Constant of)

-- the rules that a declaration of constants breaks: those of its type, and of each constant in its order
abbrev pub check_constants : Scope → Constants → List Rule
check_constants scope cs = check_type scope.names false cs.type_name ++
    one_by_one (check_constant (resolved scope.names cs.type_name)) (constant_entry (resolved scope.names cs.type_name)) scope cs.constants

-- the scope behind a declaration of constants
abbrev pub behind_constants : Scope → Constants → Scope
behind_constants scope cs = behind_all (constant_entry (resolved scope.names cs.type_name)) scope cs.constants

-- a timer: its name is new
abbrev pub check_timer_name : Scope → Timer → List Rule
check_timer_name scope timer = check_new_name scope.names timer.name

-- the entry of a timer: its name stands for a timer
abbrev pub timer_entry : Scope → Timer → Entry
timer_entry scope timer = (timer.name, meaning.Timer)

-- the rules that a declaration of timers breaks, each behind those before it
abbrev pub check_timers : Scope → List Timer → List Rule
check_timers scope timers = one_by_one check_timer_name timer_entry scope timers

-- the scope behind a declaration of timers
abbrev pub behind_timers : Scope → List Timer → Scope
behind_timers scope timers = behind_all timer_entry scope timers

-- ---- what is assigned

-- what a name is as a target: a variable or a parameter, but no constant
abbrev pub as_target : List Definition → Option Meaning → Judgement
as_target definitions (Some (meaning.Variable t)) = record { typing = typed t; broken = [] }
as_target definitions (Some (meaning.Constant t)) = record { typing = typed t; broken = rule.NotAssignable ∷ [] }
as_target definitions (Some (meaning.ModuleConstant at item)) =
    record { typing = (check_meaning definitions (Some (meaning.ModuleConstant at item))).typing; broken = rule.NotAssignable ∷ [] }
as_target definitions _ = record { typing = typing.Unknown; broken = rule.UnknownName ∷ [] }

-- what is said of a target with its fields
abbrev pub check_target : Scope → Reference → Judgement
check_target scope reference =
    let found = as_target scope.definitions (scope.names reference.name) in
    after found.broken (along scope.definitions found.typing reference.fields)

-- whether a field may be omitted: not judged where it is not known
abbrev pub is_optional : Option Field → Bool
is_optional None = true
is_optional (Some field) = field.optional

-- whether the field of a name may be omitted in what has this typing: not judged where that is no record
abbrev pub optional_in : List Definition → Typing → List ℕ → Bool
optional_in definitions (typing.Known (type.Record at)) name = is_optional (field_named name (fields_at definitions at))
optional_in definitions _ name = true

-- whether the last of fields of fields may be omitted: what is no field may not
abbrev pub last_optional : List Definition → Typing → Bool → List (List ℕ) → Bool
last_optional definitions t optional [] = optional
last_optional definitions t optional (name ∷ names) =
    last_optional definitions (within definitions t name).typing (optional_in definitions t name) names

-- the target that a reference is: its type if that is known, and whether its last field may be omitted
abbrev pub target_at : Scope → Reference → Target
target_at scope reference = record {
  data_type = type_known (check_target scope reference).typing;
  optional = last_optional scope.definitions (as_target scope.definitions (scope.names reference.name)).typing false reference.fields;
}

-- the rules that an assignment breaks: those of its target, and those of the right side at this target
abbrev pub check_assignment : Scope → Assignment → List Rule
check_assignment scope assignment =
    (check_target scope assignment.target).broken ++ check_rhs scope (target_at scope assignment.target) assignment.value

-- What is known of targets of assignments and of what goes there, where they break no rule.
use Rattle.std.specs.Prelude.{◌≡◌, ℕ, Bool, true, false, List, [], ◌∷◌, Option, Some, None, is_none}
use Rattle.ttcn_syntax.specs.declared.tree.expression.Reference.{Reference}
use Rattle.ttcn_syntax.specs.declared.tree.statement.Assignment.{Assignment}
use Rattle.ttcn_syntax.specs.declared.tree.statement.Constant.{Constant}
use Rattle.ttcn_syntax.specs.declared.tree.statement.Constants.{Constants}
use Rattle.ttcn_syntax.specs.declared.tree.statement.Variable.{Variable}
use Rattle.ttcn_syntax.specs.declared.tree.statement.Variables.{Variables}
use Rattle.ttcn_syntax.specs.declared.tree.value.Call.{Call}
use Rattle.ttcn_syntax.specs.declared.tree.value.Rhs.{Rhs}
use Rattle.ttcn_syntax.specs.declared.tree.value.Rhs.TheVariants as rhs
use Rattle.ttcn_syntax.specs.declared.tree.value.TypeName.{TypeName}
use Rattle.check_rules.specs.Calls.{gives_value, result_type_of}
use Rattle.check_rules.specs.Expressions.{along}
use Rattle.check_rules.specs.Targets.{check_rhs, constant_entry, target_at, variable_entry}
use Rattle.check_rules.specs.Values.{value}
use Rattle.check_scope.specs.Names.{Scope, component_meant, declaring, kind_at, module_names, resolved}
use Rattle.check_scope.specs.Typings.{target_of}
use Rattle.check_scope.specs.declared.names.Meaning.TheVariants as meaning
use Rattle.check_scope.specs.declared.types.DataType.{DataType}
use Rattle.check_scope.specs.declared.types.DataType.TheVariants as type
use Rattle.check_scope.specs.declared.types.Typing.TheVariants as typing
use Rattle.laws_checker.specs.Laws.{Resolves}
use Rattle.laws_statements.specs.Resolved.{Activates}

-- the type of the target is known, and what is assigned goes there
pub record HasTarget (scope : Scope) (assignment : Assignment) : Type 0 where
  pub data_type : DataType
  pub known : (target_at scope assignment.target).data_type ≡ Some data_type
  pub value : check_rhs scope (target_at scope assignment.target) assignment.value ≡ []

-- a reference begins with the name of a variable of a known type, and with its fields it is of a type
pub record IsVariable (scope : Scope) (reference : Reference) (data_type : DataType) : Type 0 where
  pub of : DataType
  pub variable : scope.names reference.name ≡ Some (meaning.Variable (Some of))
  pub fields : (along scope.definitions (typing.Known of) reference.fields).broken ≡ []
  pub is : (along scope.definitions (typing.Known of) reference.fields).typing ≡ typing.Known data_type

-- ---- right sides

-- a call is of a function, with these arguments, and the function's result is of a type
pub record GivesResult (scope : Scope) (data_type : DataType) (call : Call) : Type 0 where
  pub resolves : Resolves scope gives_value call
  pub of : TypeName
  pub result : result_type_of (kind_at scope.definitions resolves.at) ≡ Some of
  pub is : resolved (module_names scope.definitions) of ≡ Some data_type

-- a name is that of a component type, which is this type
pub record Creates (scope : Scope) (data_type : DataType) (name : List ℕ) : Type 0 where
  pub at : ℕ
  pub meant : component_meant (scope.names name) ≡ Some at
  pub is : data_type ≡ type.Component at

-- a right side goes to a type: a value, a new component or the result of a call of this type, or an activation where a default is wanted
abbrev pub IsRightSide : Scope → DataType → Bool → Rhs → Type 0
IsRightSide scope data_type optional (rhs.Value v) = value v scope (record { data_type = Some data_type; optional = optional }) ≡ []
IsRightSide scope data_type optional (rhs.Create name) = Creates scope data_type name
IsRightSide scope data_type optional (rhs.Call call) = GivesResult scope data_type call
IsRightSide scope data_type optional (rhs.Activate call) = Activates scope call × (data_type ≡ type.Default)

-- an assignment: its target is a variable or a field in one, and the right side goes there
pub record IsAssignment (scope : Scope) (assignment : Assignment) : Type 0 where
  pub data_type : DataType
  pub target : IsVariable scope assignment.target data_type
  pub right : IsRightSide scope data_type (target_at scope assignment.target).optional assignment.value

-- ---- declarations

-- an initial value, where there is one
abbrev pub IsInitial : Scope → DataType → Option Rhs → Type 0
IsInitial scope data_type None = Unit {0}
IsInitial scope data_type (Some right) = IsRightSide scope data_type false right

-- variables of a type, each visible to those behind it: its name is new, and its initial value goes to the type
abbrev pub AreVariables : Scope → DataType → List Variable → Type 0
AreVariables scope data_type [] = Unit {0}
AreVariables scope data_type (v ∷ vs) =
    (is_none (scope.names v.name) ≡ true) × IsInitial scope data_type v.value × AreVariables (declaring scope (variable_entry (Some data_type) scope v ∷ [])) data_type vs

-- a declaration of variables, whose type is known
pub record DeclaresVariables (scope : Scope) (vs : Variables) : Type 0 where
  pub data_type : DataType
  pub known : resolved scope.names vs.type_name ≡ Some data_type
  pub each : AreVariables scope data_type vs.variables

-- constants of a type, each visible to those behind it: its name is new, and its value goes to the type
abbrev pub AreConstants : Scope → DataType → List Constant → Type 0
AreConstants scope data_type [] = Unit {0}
AreConstants scope data_type (c ∷ cs) =
    (is_none (scope.names c.name) ≡ true) × (value c.value scope (target_of (Some data_type)) ≡ []) × AreConstants (declaring scope (constant_entry (Some data_type) scope c ∷ [])) data_type cs

-- a declaration of constants, whose type is known
pub record DeclaresConstants (scope : Scope) (cs : Constants) : Type 0 where
  pub data_type : DataType
  pub known : resolved scope.names cs.type_name ≡ Some data_type
  pub each : AreConstants scope data_type cs.constants

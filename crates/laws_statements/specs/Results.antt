-- What is returned, where nothing is broken.
use Rattle.std.specs.Prelude.{◌≡◌, ◌≢◌, ℕ, true, List, [], Option, Some, None, is_some, IfSome}
use Rattle.std.specs.List.{flat_map}
use Rattle.ttcn_syntax.specs.declared.tree.definition.Definition.{Definition}
use Rattle.ttcn_syntax.specs.declared.tree.definition.Parameter.{Parameter}
use Rattle.ttcn_syntax.specs.declared.tree.statement.Branch.{Branch}
use Rattle.ttcn_syntax.specs.declared.tree.value.TypeName.{TypeName}
use Rattle.ttcn_syntax.specs.declared.tree.value.Value.{Value}
use Rattle.check_rules.specs.Calls.{component_named, result_type_of}
use Rattle.check_rules.specs.Values.{value}
use Rattle.check_scope.specs.Names.{Scope, kind_at, module_names, resolved}
use Rattle.check_scope.specs.Scopes.{scope_on}
use Rattle.check_scope.specs.Typings.{target_of}
use Rattle.check_scope.specs.declared.types.DataType.{DataType}
use Rattle.check_rules.specs.Definitions.{with_parameters}
use Rattle.check_rules.specs.Statements.{Check, Place, branch, check_return}

-- ---- functions

-- the type that a name stands for is known in the module, where there is a name
abbrev pub IsResultKnown : List Definition → Option TypeName → Type 0
IsResultKnown definitions of = IfSome of (λ name. is_some (resolved (module_names definitions) name) ≡ true)

-- each function that has a result has one of a known type
abbrev pub KnowsResults : List Definition → Type 0
KnowsResults definitions = (at : ℕ) → IsResultKnown definitions (result_type_of (kind_at definitions at))

-- a value is returned, and goes to the type of the result, which is known
pub record ReturnsValue (scope : Scope) (of : Option DataType) (given : Option Value) : Type 0 where
  pub data_type : DataType
  pub known : of ≡ Some data_type
  pub returned : Value
  pub stands : given ≡ Some returned
  pub goes : value returned scope (target_of (Some data_type)) ≡ []

-- a function with a result returns a value of the result's type, and one without a result returns none
abbrev pub IsReturn : Scope → Option TypeName → Option Value → Type 0
IsReturn scope None given = given ≡ None
IsReturn scope (Some of) given = ReturnsValue scope (resolved (module_names scope.definitions) of) given

-- ---- altsteps and test cases

-- the scope in which a behaviour begins
abbrev pub scope_in : List Definition → Option (List ℕ) → List Parameter → Scope
scope_in definitions runs_on parameters = with_parameters (scope_on definitions (component_named definitions runs_on)) parameters

-- the rules that branches break
abbrev pub branches : List Branch → Check
branches bs place = flat_map (λ b. branch b place) bs

-- what stands in a scope breaks no rule at a place where no `return` may stand
pub record IsFineWithoutReturns (scope : Scope) (body : Check) : Type 0 where
  pub place : Place
  pub is : place.scope ≡ scope
  pub fine : body place ≡ []
  pub no_return : (inner : Scope) (given : Option Value) → check_return inner place.returns given ≢ []

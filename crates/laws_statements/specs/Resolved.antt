-- What activations and starts of components resolve to, where they break no rule.
use Rattle.std.specs.Prelude.{◌≡◌, ℕ, true, false, [], Some}
use Rattle.ttcn_syntax.specs.declared.tree.expression.ComponentRef.{ComponentRef}
use Rattle.ttcn_syntax.specs.declared.tree.value.Call.{Call}
use Rattle.check_rules.specs.Calls.{altstep_meant, behaviour_meant, component_named, is_altstep, parameters_of, runs_here, runs_on_of}
use Rattle.check_rules.specs.Expressions.{check_component}
use Rattle.check_scope.specs.Names.{Scope, kind_at}
use Rattle.check_scope.specs.Typings.{refers_to_component}
use Rattle.check_rules.specs.Statements.{is_function, runs_there, says_component}
use Rattle.laws_checker.specs.Laws.{AreArguments}

-- an activation: its name stands for an altstep that runs on this component type, with these arguments
pub record Activates (scope : Scope) (call : Call) : Type 0 where
  pub at : ℕ
  pub meant : altstep_meant (scope.names call.name) ≡ Some at
  pub arguments : AreArguments scope (parameters_of (kind_at scope.definitions at)) call.arguments
  pub runs : runs_here (component_named scope.definitions (runs_on_of (kind_at scope.definitions at))) scope.itself ≡ true
  pub kind : is_altstep (kind_at scope.definitions at) ≡ true

-- a start: a component is started with a function that says on what it runs, with these arguments
pub record Starts (scope : Scope) (reference : ComponentRef) (call : Call) : Type 0 where
  pub fine : (check_component scope reference false).broken ≡ []
  pub component : refers_to_component (check_component scope reference false).typing ≡ true
  pub at : ℕ
  pub meant : behaviour_meant (scope.names call.name) ≡ Some at
  pub arguments : AreArguments scope (parameters_of (kind_at scope.definitions at)) call.arguments
  pub says : says_component (kind_at scope.definitions at) ≡ true
  pub runs : runs_there (check_component scope reference false).typing (component_named scope.definitions (runs_on_of (kind_at scope.definitions at))) ≡ true
  pub function : is_function (kind_at scope.definitions at) ≡ true

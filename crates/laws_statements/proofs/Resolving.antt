-- Activations and starts that break no rule resolve.
use Rattle.std.proofs.Common.{◌≡◌, ℕ, true, false, List, [], ◌++◌, Option, Some, None, refl}
use Rattle.ttcn_syntax.specs.declared.tree.definition.DefinitionKind.{DefinitionKind}
use Rattle.ttcn_syntax.specs.declared.tree.expression.ComponentRef.{ComponentRef}
use Rattle.ttcn_syntax.specs.declared.tree.value.Call.{Call}
use Rattle.check_rules.specs.Calls.{altstep_meant, check_activation, check_arguments, check_behaviour, behaviour_meant, component_named, is_altstep, parameters_of, runs_here, runs_on_of}
use Rattle.check_rules.specs.Expressions.{Judgement, check_component}
use Rattle.check_scope.specs.Names.{Scope, kind_at}
use Rattle.check_scope.specs.Typings.{refers_to_component, unless}
use Rattle.check_scope.specs.declared.rule.Rule.{Rule}
use Rattle.check_scope.specs.declared.rule.Rule.TheVariants as rule
use Rattle.check_rules.specs.Statements.{check_start, check_started, is_function, runs_there, says_component}
use Rattle.laws_checker.proofs.Fitting.{arguments-fit}
use Rattle.laws_checker.proofs.Nothing.{kept, nothing-first, nothing-rest}
use Rattle.laws_statements.specs.Resolved.{Activates, Starts}

module _ (scope : Scope) (call : Call) where
  activates : (meant : Option ℕ) → altstep_meant (scope.names call.name) ≡ meant → check_behaviour scope is_altstep call meant ≡ [] → Activates scope call
  activates None is nothing = absurd (let e = nothing in cc)
  activates (Some at) is nothing =
      let k : Option DefinitionKind = kind_at scope.definitions at in
      let given : List Rule = check_arguments scope (parameters_of k) call.arguments in
      let on : List Rule = unless (runs_here (component_named scope.definitions (runs_on_of k)) scope.itself) rule.RunsOn in
      let called : List Rule = unless (is_altstep k) rule.CallKind in
      let front : given ++ on ≡ [] = nothing-first (given ++ on) called nothing in
      record {
        at = at;
        meant = is;
        arguments = arguments-fit scope (parameters_of k) call.arguments (nothing-first given on front);
        runs = kept (runs_here (component_named scope.definitions (runs_on_of k)) scope.itself) rule.RunsOn (nothing-rest given on front);
        kind = kept (is_altstep k) rule.CallKind (nothing-rest (given ++ on) called nothing);
      }

  pub activation_resolves : check_activation scope call ≡ [] → Activates scope call
  activation_resolves nothing = activates (altstep_meant (scope.names call.name)) refl nothing

  module _ (reference : ComponentRef) where
    starts : (meant : Option ℕ) → behaviour_meant (scope.names call.name) ≡ meant → (check_component scope reference false).broken ≡ []
        → refers_to_component (check_component scope reference false).typing ≡ true → check_started scope (check_component scope reference false).typing call meant ≡ [] → Starts scope reference call
    starts None is fine component nothing = absurd (let e = nothing in cc)
    starts (Some at) is fine component nothing =
        let started : Judgement = check_component scope reference false in
        let k : Option DefinitionKind = kind_at scope.definitions at in
        let given : List Rule = check_arguments scope (parameters_of k) call.arguments in
        let says : List Rule = unless (says_component k) rule.RunsOn in
        let there : List Rule = unless (runs_there started.typing (component_named scope.definitions (runs_on_of k))) rule.RunsOn in
        let called : List Rule = unless (is_function k) rule.CallKind in
        let three : given ++ says ++ there ≡ [] = nothing-first (given ++ says ++ there) called nothing in
        let two : given ++ says ≡ [] = nothing-first (given ++ says) there three in
        record {
          fine = fine;
          component = component;
          at = at;
          meant = is;
          arguments = arguments-fit scope (parameters_of k) call.arguments (nothing-first given says two);
          says = kept (says_component k) rule.RunsOn (nothing-rest given says two);
          runs = kept (runs_there started.typing (component_named scope.definitions (runs_on_of k))) rule.RunsOn (nothing-rest (given ++ says) there three);
          function = kept (is_function k) rule.CallKind (nothing-rest (given ++ says ++ there) called nothing);
        }

    start-resolves : check_start scope reference call ≡ [] → Starts scope reference call
    start-resolves nothing =
        let started : Judgement = check_component scope reference false in
        let component : List Rule = unless (refers_to_component started.typing) rule.UnknownName in
        let function : List Rule = check_started scope started.typing call (behaviour_meant (scope.names call.name)) in
        let front : started.broken ++ component ≡ [] = nothing-first (started.broken ++ component) function nothing in
        starts (behaviour_meant (scope.names call.name)) refl (nothing-first started.broken component front)
        (kept (refers_to_component started.typing) rule.UnknownName (nothing-rest started.broken component front))
        (nothing-rest (started.broken ++ component) function nothing)

pub started : (scope : Scope) (reference : ComponentRef) (call : Call) → check_start scope reference call ≡ [] → Starts scope reference call
started scope reference call nothing = start-resolves scope call reference nothing

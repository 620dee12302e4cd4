-- A `return` that breaks no rule.
use Rattle.std.proofs.Common.{◌≡◌, ◌≢◌, ℕ, false, List, [], ◌++◌, Option, Some, None, refl, subst}
use Rattle.ttcn_syntax.specs.declared.tree.definition.Altstep.{Altstep}
use Rattle.ttcn_syntax.specs.declared.tree.definition.Definition.{Definition}
use Rattle.ttcn_syntax.specs.declared.tree.definition.DefinitionKind.{DefinitionKind}
use Rattle.ttcn_syntax.specs.declared.tree.definition.DefinitionKind.TheVariants as kind
use Rattle.ttcn_syntax.specs.declared.tree.definition.Function.{Function}
use Rattle.ttcn_syntax.specs.declared.tree.definition.Testcase.{Testcase}
use Rattle.ttcn_syntax.specs.declared.tree.value.TypeName.{TypeName}
use Rattle.ttcn_syntax.specs.declared.tree.value.Value.{Value}
use Rattle.check_rules.specs.Calls.{component_named, result_type_of}
use Rattle.check_rules.specs.Values.{value}
use Rattle.check_scope.specs.Names.{Scope, kind_at, module_names, resolved}
use Rattle.check_scope.specs.Scopes.{scope_on}
use Rattle.check_scope.specs.Typings.{target_of}
use Rattle.check_scope.specs.declared.rule.Rule.{Rule}
use Rattle.check_rules.specs.Definitions.{check_component_name, check_parameters, check_result, place_in, returns_of}
use Rattle.check_rules.specs.Statements.{Check, Place, check_return, statements}
use Rattle.laws_checker.proofs.Nothing.{nothing-first, nothing-rest}
use Rattle.laws_checker.proofs.Whole.{definition_is_fine}
use Rattle.laws_statements.proofs.Typing.{some-of, type_known}
use Rattle.laws_statements.specs.Results.{IsFineWithoutReturns, IsResultKnown, IsReturn, KnowsResults, branches, scope_in}
use Rattle.check_rules.specs.Rules.{AreWellTyped}

-- ---- results

module _ (definitions : List Definition) (well : AreWellTyped definitions) where
  result-known : (of : Option TypeName) → check_result definitions of ≡ [] → IsResultKnown definitions of
  result-known None nothing = tt
  result-known (Some name) nothing = type_known (module_names definitions) false name nothing

  kind-known : (at : ℕ) (k : Option DefinitionKind) → kind_at definitions at ≡ k → IsResultKnown definitions (result_type_of k)
  kind-known at (Some (kind.Function f)) is =
      let scope : Scope = scope_on definitions (component_named definitions f.runs_on) in
      let named : List Rule = check_component_name definitions f.runs_on in
      let parameters : List Rule = check_parameters scope f.parameters in
      let result : List Rule = check_result definitions f.returns in
      let body : List Rule = statements f.body (place_in scope f.parameters (returns_of definitions f.returns)) in
      result-known f.returns
      (nothing-rest (named ++ parameters) result (nothing-first ((named ++ parameters) ++ result) body (definition_is_fine definitions well at (kind.Function f) is)))
  kind-known at (Some (kind.Record r)) is = tt
  kind-known at (Some (kind.Enumerated e)) is = tt
  kind-known at (Some (kind.Port p)) is = tt
  kind-known at (Some (kind.Component c)) is = tt
  kind-known at (Some (kind.Constants cs)) is = tt
  kind-known at (Some (kind.Template t)) is = tt
  kind-known at (Some (kind.Altstep a)) is = tt
  kind-known at (Some (kind.Testcase t)) is = tt
  kind-known at None is = tt

  pub results_known : KnowsResults definitions
  results_known at = kind-known at (kind_at definitions at) refl

-- ---- returns

return-fits : (scope : Scope) (of : Option TypeName) → IsResultKnown scope.definitions of → (given : Option Value) → check_return scope (returns_of scope.definitions of) given ≡ []
    → IsReturn scope of given
return-fits scope None known None nothing = refl
return-fits scope None known (Some v) nothing = absurd (let e = nothing in cc)
return-fits scope (Some name) known None nothing = absurd (let e = nothing in cc)
return-fits scope (Some name) known (Some v) nothing =
    let of = some-of (resolved (module_names scope.definitions) name) known in
    record { data_type = of.0; known = of.1; returned = v; stands = refl; goes = subst (λ t. value v scope (target_of t) ≡ []) of.1 nothing }

pub return_fits : (scope : Scope) → KnowsResults scope.definitions → (at : ℕ) (f : Function) → kind_at scope.definitions at ≡ Some (kind.Function f) → (given : Option Value)
    → check_return scope (returns_of scope.definitions f.returns) given ≡ [] → IsReturn scope f.returns given
return_fits scope knows at f is given nothing =
    return-fits scope f.returns (subst (λ k. IsResultKnown scope.definitions (result_type_of k)) is (knows at)) given nothing

-- ---- no returns

without-returns : (scope : Scope) (body : Check) (place : Place) (before : List Rule) → before ++ body place ≡ [] → place.scope ≡ scope
    → ((inner : Scope) → check_return inner place.returns None ≢ []) → ((inner : Scope) (v : Value) → check_return inner place.returns (Some v) ≢ []) → IsFineWithoutReturns scope body
without-returns scope body place before nothing is bare valued = record {
  place = place;
  is = is;
  fine = nothing-rest before (body place) nothing;
  no_return = no_return;
}
  where
    no_return : (inner : Scope) (given : Option Value) → check_return inner place.returns given ≢ []
    no_return inner None = bare inner
    no_return inner (Some v) = valued inner v

module _ (definitions : List Definition) (well : AreWellTyped definitions) where
  pub altstep_fine : (at : ℕ) (a : Altstep) → kind_at definitions at ≡ Some (kind.Altstep a) → IsFineWithoutReturns (scope_in definitions a.runs_on a.parameters) (branches a.branches)
  altstep_fine at a is =
      let scope : Scope = scope_on definitions (component_named definitions a.runs_on) in
      let before : List Rule = check_component_name definitions a.runs_on ++ check_parameters scope a.parameters in
      without-returns (scope_in definitions a.runs_on a.parameters) (branches a.branches) _ before (definition_is_fine definitions well at (kind.Altstep a) is) refl
      (λ inner broken. let e = broken in cc) (λ inner v broken. let e = broken in cc)

  pub testcase_fine : (at : ℕ) (t : Testcase) → kind_at definitions at ≡ Some (kind.Testcase t) → IsFineWithoutReturns (scope_in definitions (Some t.runs_on) []) (statements t.body)
  testcase_fine at t is =
      let before : List Rule = check_component_name definitions (Some t.runs_on) ++ check_component_name definitions t.system in
      without-returns (scope_in definitions (Some t.runs_on) []) (statements t.body) _ before (definition_is_fine definitions well at (kind.Testcase t) is) refl
      (λ inner broken. let e = broken in cc) (λ inner v broken. let e = broken in cc)

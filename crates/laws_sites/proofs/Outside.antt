-- Names that are visible outside of blocks are visible within, parameters have other names, and bodies break no rule.
use Rattle.std.proofs.Common.{◌≡◌, ℕ, true, false, List, [], ◌∷◌, ◌++◌, Option, Some, None, IfSome, refl, subst, ◌≢◌}
use Rattle.std.specs.List.{All, flat_map}
use Rattle.std.proofs.lemmas.List.Elements.{All-cons, All-nil}
use Rattle.ttcn_syntax.specs.declared.tree.definition.Definition.{Definition}
use Rattle.ttcn_syntax.specs.declared.tree.definition.DefinitionKind.{DefinitionKind}
use Rattle.ttcn_syntax.specs.declared.tree.definition.DefinitionKind.TheVariants as kind
use Rattle.ttcn_syntax.specs.declared.tree.definition.Parameter.{Parameter}
use Rattle.ttcn_syntax.specs.declared.tree.statement.Statement.{Statement}
use Rattle.ttcn_syntax.specs.declared.tree.value.Value.{Value}
use Rattle.check_rules.specs.Calls.{component_named, parameters_of}
use Rattle.check_rules.specs.Declarations.{behind_all, one_by_one}
use Rattle.check_rules.specs.Targets.{check_new_name, check_type}
use Rattle.check_rules.specs.Templates.{template}
use Rattle.check_scope.specs.Names.{Entry, Scope, declaring, kind_at, listed, resolved}
use Rattle.check_scope.specs.Scopes.{module_scope, scope_on}
use Rattle.check_scope.specs.Typings.{target_of}
use Rattle.check_scope.specs.declared.rule.Rule.{Rule}
use Rattle.check_rules.specs.Definitions.{check_component_name, check_parameter, check_parameters, check_result, parameter_entry, place_in, returns_of, with_parameters}
use Rattle.check_rules.specs.Statements.{Check, Place, branch, check_return, statements, with_scope}
use Rattle.laws_checker.proofs.Nothing.{nothing-first, nothing-rest}
use Rattle.laws_checker.proofs.Whole.{behaviour_whole, definition_is_fine, parameters_whole}
use Rattle.laws_sites.specs.Standing.{IsFineSite, IsFree, MayReturn, PlaceIn, place_at}
use Rattle.laws_statements.specs.Results.{branches}
use Rattle.laws_statements.proofs.Growing.{new-unseen, or-unseen}
use Rattle.semantics.proofs.Pairs.{All-more}
use Rattle.semantics.specs.Branches.{branches_of}
use Rattle.semantics.specs.Runs.{testcase_body}
use Rattle.semantics.specs.Sites.{beginning, component_name, runs_on, scope_at, scope_with}
use Rattle.semantics.specs.Statements.{body_of}
use Rattle.check_rules.specs.Rules.{AreWellTyped}

-- ---- names

-- what isn't visible behind declarations isn't in front of them
pub unseen-before : (scope : Scope) (entries : List Entry) (name : List ℕ) → (scope_with scope entries).names name ≡ None → scope.names name ≡ None
unseen-before scope [] name unseen = unseen
unseen-before scope (entry ∷ entries) name unseen =
    unseen-before scope entries name (or-unseen (listed (entry ∷ []) name) ((scope_with scope entries).names name) unseen)

pub unseen-in-front : {A : Type 0} (entry : Scope → A → Entry) (scope : Scope) (items : List A) (name : List ℕ) → (behind_all entry scope items).names name ≡ None → scope.names name ≡ None
unseen-in-front entry scope [] name unseen = unseen
unseen-in-front entry scope (x ∷ items) name unseen =
    or-unseen (listed (entry scope x ∷ []) name) (scope.names name) (unseen-in-front entry (declaring scope (entry scope x ∷ [])) items name unseen)

-- the names of what is declared one by one are new in front of all
pub each-unseen : {A : Type 0} (rules : Scope → A → List Rule) (entry : Scope → A → Entry) (name : A → List ℕ) → ((s : Scope) (x : A) → rules s x ≡ [] → s.names (name x) ≡ None)
    → (scope : Scope) (items : List A) → one_by_one rules entry scope items ≡ [] → All (λ x. scope.names (name x) ≡ None) items
each-unseen rules entry name new scope [] nothing = All-nil (λ x. scope.names (name x) ≡ None)
each-unseen rules entry name new scope (x ∷ items) nothing =
    let next : Scope = declaring scope (entry scope x ∷ []) in
    All-cons (λ y. scope.names (name y) ≡ None) x items (new scope x (nothing-first (rules scope x) (one_by_one rules entry next items) nothing))
    (All-more (λ y. next.names (name y) ≡ None) (λ y. scope.names (name y) ≡ None) (λ y unseen. or-unseen (listed (entry scope x ∷ []) (name y)) (scope.names (name y)) unseen) items
    (each-unseen rules entry name new next items (nothing-rest (rules scope x) (one_by_one rules entry next items) nothing)))

-- of several, each
flat-each : {A : Type 0} (f : A → List Rule) (xs : List A) → flat_map f xs ≡ [] → All (λ x. f x ≡ []) xs
flat-each f [] nothing = All-nil (λ x. f x ≡ [])
flat-each f (x ∷ xs) nothing =
    All-cons (λ y. f y ≡ []) x xs (nothing-first (f x) (flat_map f xs) nothing) (flat-each f xs (nothing-rest (f x) (flat_map f xs) nothing))

-- ---- behaviours

module _ (definitions : List Definition) (well : AreWellTyped definitions) where
  abbrev scope-of : Option DefinitionKind → Scope
  scope-of k = scope_on definitions (component_named definitions (component_name k))

  pub altstep-parameters : (named parameters body : List Rule) → named ++ parameters ++ body ≡ [] → parameters ≡ []
  altstep-parameters named parameters body nothing = nothing-rest named parameters (nothing-first (named ++ parameters) body nothing)

  parameters-of : (at : ℕ) (k : Option DefinitionKind) → kind_at definitions at ≡ k → check_parameters (scope-of k) (parameters_of k) ≡ []
  parameters-of at (Some (kind.Function f)) is =
      let scope : Scope = scope_on definitions (component_named definitions f.runs_on) in
      let named : List Rule = check_component_name definitions f.runs_on in
      let parameters : List Rule = check_parameters scope f.parameters in
      let result : List Rule = check_result definitions f.returns in
      let body : List Rule = statements f.body (place_in scope f.parameters (returns_of definitions f.returns)) in
      nothing-rest named parameters (nothing-first (named ++ parameters) result
      (nothing-first ((named ++ parameters) ++ result) body (definition_is_fine definitions well at (kind.Function f) is)))
  parameters-of at (Some (kind.Altstep a)) is =
      let scope : Scope = scope_on definitions (component_named definitions a.runs_on) in
      let named : List Rule = check_component_name definitions a.runs_on in
      altstep-parameters named (check_parameters scope a.parameters) _ (definition_is_fine definitions well at (kind.Altstep a) is)
  parameters-of at (Some (kind.Template t)) is =
      let scope : Scope = module_scope definitions in
      let typed : List Rule = check_type scope.names false t.type_name in
      let parameters : List Rule = check_parameters scope t.parameters in
      let body : List Rule = template t.template (with_parameters scope t.parameters) (target_of (resolved scope.names t.type_name)) in
      nothing-rest typed parameters (nothing-first (typed ++ parameters) body (definition_is_fine definitions well at (kind.Template t) is))
  parameters-of at (Some (kind.Record r)) is = refl
  parameters-of at (Some (kind.Enumerated e)) is = refl
  parameters-of at (Some (kind.Port p)) is = refl
  parameters-of at (Some (kind.Component c)) is = refl
  parameters-of at (Some (kind.Constants cs)) is = refl
  parameters-of at (Some (kind.Testcase t)) is = refl
  parameters-of at None is = refl

  parameters-fine : (at : ℕ) → check_parameters (scope_on definitions (runs_on definitions at)) (parameters_of (kind_at definitions at)) ≡ []
  parameters-fine at = parameters-of at (kind_at definitions at) refl

  -- parameters have names that are visible nowhere outside
  pub parameters-free : (at : ℕ) → All (λ p. IsFree definitions at p.name) (parameters_of (kind_at definitions at))
  parameters-free at =
      each-unseen check_parameter parameter_entry (λ (p : Parameter). p.name)
      (λ s p fine. new-unseen s.names p.name (nothing-first (check_new_name s.names p.name) (check_type s.names true p.type_name) fine))
      (scope_on definitions (runs_on definitions at)) (parameters_of (kind_at definitions at)) (parameters-fine at)

  pub beginning-fine : (at : ℕ) → IsFineSite definitions at (beginning at)
  beginning-fine at = record {
    within = refl;
    declared = All-nil (λ entry. IsFree definitions at entry.0);
    whole = parameters_whole (scope_on definitions (runs_on definitions at)) (parameters_of (kind_at definitions at)) (parameters-fine at) (behaviour_whole definitions well (runs_on definitions at));
  }

  -- where the body of a behaviour begins
  abbrev first-scope : Option DefinitionKind → Scope
  first-scope k = with_parameters (scope-of k) (parameters_of k)

  -- a body breaks no rule at a place of the behaviour
  abbrev IsFineBody : Option DefinitionKind → Check → Type 0
  IsFineBody k body = (place : Place) × MayReturn definitions k place × (body (with_scope place (first-scope k)) ≡ [])

  -- where a `return` may stand as this place says
  returning : (k : Option DefinitionKind) (scope : Scope) (body : Check) (place : Place) (before : List Rule) → before ++ body place ≡ [] → place.scope ≡ scope → MayReturn definitions k place
      → (place : Place) × MayReturn definitions k place × (body (with_scope place scope) ≡ [])
  returning k scope body place before nothing is may = (place, may, subst (λ s. body (with_scope place s) ≡ []) is (nothing-rest before (body place) nothing))

  -- where none may stand
  none-returned : (place : Place) → ((scope : Scope) → check_return scope place.returns None ≢ []) → ((scope : Scope) (v : Value) → check_return scope place.returns (Some v) ≢ [])
      → (scope : Scope) (given : Option Value) → check_return scope place.returns given ≢ []
  none-returned place bare valued scope None = bare scope
  none-returned place bare valued scope (Some v) = valued scope v

  silent : (scope : Scope) (body : Check) (place : Place) (before : List Rule) → before ++ body place ≡ [] → place.scope ≡ scope
      → ((inner : Scope) → check_return inner place.returns None ≢ []) → ((inner : Scope) (v : Value) → check_return inner place.returns (Some v) ≢ [])
      → (place : Place) × ((inner : Scope) (given : Option Value) → check_return inner place.returns given ≢ []) × (body (with_scope place scope) ≡ [])
  silent scope body place before nothing is bare valued =
      (place, none-returned place bare valued, subst (λ s. body (with_scope place s) ≡ []) is (nothing-rest before (body place) nothing))

  function-fine : (at : ℕ) (k : Option DefinitionKind) → kind_at definitions at ≡ k → IfSome (body_of k) (λ block. IsFineBody k (statements block))
  function-fine at (Some (kind.Function f)) is =
      let scope : Scope = scope_on definitions (component_named definitions f.runs_on) in
      let before : List Rule = check_component_name definitions f.runs_on ++ check_parameters scope f.parameters ++ check_result definitions f.returns in
      returning (Some (kind.Function f)) (with_parameters scope f.parameters) (statements f.body) (place_in scope f.parameters (returns_of definitions f.returns)) before
      (definition_is_fine definitions well at (kind.Function f) is) refl refl
  function-fine at _ is = tt

  case-fine : (at : ℕ) (k : Option DefinitionKind) → kind_at definitions at ≡ k → IfSome (testcase_body k) (λ block. IsFineBody k (statements block))
  case-fine at (Some (kind.Testcase t)) is =
      let scope : Scope = scope_on definitions (component_named definitions (Some t.runs_on)) in
      let before : List Rule = check_component_name definitions (Some t.runs_on) ++ check_component_name definitions t.system in
      silent scope (statements t.body) _ before (definition_is_fine definitions well at (kind.Testcase t) is) refl (λ inner broken. let e = broken in cc) (λ inner v broken. let e = broken in cc)
  case-fine at _ is = tt

  altstep-fine : (at : ℕ) (k : Option DefinitionKind) → kind_at definitions at ≡ k → All (λ b. IsFineBody k (branch b)) (branches_of k)
  altstep-fine at (Some (kind.Altstep a)) is =
      let scope : Scope = scope_on definitions (component_named definitions a.runs_on) in
      let before : List Rule = check_component_name definitions a.runs_on ++ check_parameters scope a.parameters in
      let all = silent (with_parameters scope a.parameters) (branches a.branches) _ before (definition_is_fine definitions well at (kind.Altstep a) is) refl
      (λ inner broken. let e = broken in cc) (λ inner v broken. let e = broken in cc) in
      All-more (λ b. branch b (with_scope all.0 (with_parameters scope a.parameters)) ≡ []) (λ b. IsFineBody (Some (kind.Altstep a)) (branch b)) (λ b nothing. (all.0, all.1, nothing)) a.branches
      (flat-each (λ b. branch b (with_scope all.0 (with_parameters scope a.parameters))) a.branches all.2)
  altstep-fine at (Some (kind.Testcase t)) is = All-nil (λ b. IsFineBody (Some (kind.Testcase t)) (branch b))
  altstep-fine at (Some (kind.Function f)) is = All-nil (λ b. IsFineBody (Some (kind.Function f)) (branch b))
  altstep-fine at (Some (kind.Template t)) is = All-nil (λ b. IsFineBody (Some (kind.Template t)) (branch b))
  altstep-fine at (Some (kind.Record r)) is = All-nil (λ b. IsFineBody (Some (kind.Record r)) (branch b))
  altstep-fine at (Some (kind.Enumerated e)) is = All-nil (λ b. IsFineBody (Some (kind.Enumerated e)) (branch b))
  altstep-fine at (Some (kind.Port p)) is = All-nil (λ b. IsFineBody (Some (kind.Port p)) (branch b))
  altstep-fine at (Some (kind.Component c)) is = All-nil (λ b. IsFineBody (Some (kind.Component c)) (branch b))
  altstep-fine at (Some (kind.Constants cs)) is = All-nil (λ b. IsFineBody (Some (kind.Constants cs)) (branch b))
  altstep-fine at None is = All-nil (λ b. IsFineBody None (branch b))

  -- the same, in the words of sites
  abbrev pub Begins : ℕ → Check → Type 0
  Begins at body = (inside : PlaceIn definitions at) × (body (place_at definitions at (scope_at definitions (beginning at)) inside) ≡ [])

  begins : (at : ℕ) (body : Check) → IsFineBody (kind_at definitions at) body → Begins at body
  begins at body is = (record { place = is.0; returns = is.1 }, is.2)

  begins-if : (at : ℕ) (block : Option (List Statement)) → IfSome block (λ block. IsFineBody (kind_at definitions at) (statements block)) → IfSome block (λ block. Begins at (statements block))
  begins-if at None is = tt
  begins-if at (Some block) is = begins at (statements block) is

  pub body-fine : (at : ℕ) → IfSome (body_of (kind_at definitions at)) (λ block. Begins at (statements block))
  body-fine at = begins-if at (body_of (kind_at definitions at)) (function-fine at (kind_at definitions at) refl)

  pub testcase-fine : (at : ℕ) → IfSome (testcase_body (kind_at definitions at)) (λ block. Begins at (statements block))
  testcase-fine at = begins-if at (testcase_body (kind_at definitions at)) (case-fine at (kind_at definitions at) refl)

  pub branches-fine : (at : ℕ) → All (λ b. Begins at (branch b)) (branches_of (kind_at definitions at))
  branches-fine at =
      All-more (λ b. IsFineBody (kind_at definitions at) (branch b)) (λ b. Begins at (branch b)) (λ b. begins at (branch b)) (branches_of (kind_at definitions at)) (altstep-fine at (kind_at definitions at) refl)

-- The parameters of templates and behaviours have types that the module knows.
use Rattle.std.proofs.Common.{◌≡◌, ℕ, Bool, true, false, ◌⊎◌, inl, inr, List, [], ◌∷◌, ◌++◌, map, bytes_eq, Option, Some, None, is_none, is_some, if◌then◌else◌, refl, sym, ap, subst, ◌∙◌}
use Rattle.std.proofs.lemmas.List.Elements.{All-nil}
use Rattle.std.specs.Cmp.Lexicographic.{bytes_decides}
use Rattle.std.specs.List.{All}
use Rattle.std.specs.Option.{option_or}
use Rattle.ttcn_syntax.specs.declared.tree.definition.Definition.{Definition}
use Rattle.ttcn_syntax.specs.declared.tree.definition.DefinitionKind.{DefinitionKind}
use Rattle.ttcn_syntax.specs.declared.tree.definition.DefinitionKind.TheVariants as kind
use Rattle.ttcn_syntax.specs.declared.tree.definition.Member.{Member}
use Rattle.ttcn_syntax.specs.declared.tree.definition.Member.TheVariants as member
use Rattle.ttcn_syntax.specs.declared.tree.definition.MemberVariable.{MemberVariable}
use Rattle.ttcn_syntax.specs.declared.tree.statement.Constant.{Constant}
use Rattle.ttcn_syntax.specs.declared.tree.statement.Timer.{Timer}
use Rattle.check_rules.specs.Calls.{component_named, parameters_of}
use Rattle.check_rules.specs.Declarations.{one_by_one}
use Rattle.check_rules.specs.Targets.{check_constant, check_new_name, check_timer_name, check_type, constant_entry, timer_entry}
use Rattle.check_rules.specs.Values.{value}
use Rattle.check_scope.specs.Names.{Entry, Names, Scope, behind, behind_members, declaring, kind_at, listed, member_entries, members_of, module_names, port_type_meant, resolved, type_meant}
use Rattle.check_scope.specs.Scopes.{component_scope, module_scope, scope_on}
use Rattle.check_scope.specs.Typings.{target_of, unless}
use Rattle.check_scope.specs.declared.names.Meaning.{Meaning}
use Rattle.check_scope.specs.declared.names.Meaning.TheVariants as meaning
use Rattle.check_scope.specs.declared.rule.Rule.{Rule}
use Rattle.check_scope.specs.declared.rule.Rule.TheVariants as rule
use Rattle.check_rules.specs.Definitions.{check_component_name, check_initial_value, check_member, check_member_variable, check_members, check_parameters, check_port_name, check_result, member_variable_entry, place_in, port_entry, returns_of}
use Rattle.check_rules.specs.Statements.{statements}
use Rattle.laws_checker.proofs.Nothing.{kept, nothing-first, nothing-rest}
use Rattle.laws_checker.proofs.Whole.{definition_is_fine}
use Rattle.laws_evaluation.proofs.ModuleReadings.{Types, each-known, parameters-fine}
use Rattle.laws_evaluation.proofs.Steps.{none-is}
use Rattle.laws_evaluation.specs.Types.{HasParameterType}
use Rattle.check_rules.specs.Rules.{AreWellTyped}

-- ---- new names

-- none of these has a meaning yet
abbrev EachNew : {A : Type 0} → Names → (A → List ℕ) → List A → Type 0
EachNew names name [] = Unit {0}
EachNew names name (x ∷ items) = (names (name x) ≡ None) × EachNew names name items

before-none : (one other : Option Meaning) → option_or one other ≡ None → other ≡ None
before-none None other is = is
before-none (Some m) other is = absurd (let e = is in cc)

each-before : {A : Type 0} (names : Names) (entries : List Entry) (name : A → List ℕ) (items : List A) → EachNew (behind names entries) name items → EachNew names name items
each-before names entries name [] new = tt
each-before names entries name (x ∷ items) new = (before-none (listed entries (name x)) (names (name x)) new.0, each-before names entries name items new.1)

-- names that are declared one behind the other, each of which has to be new
each-new : {A : Type 0} (rules : Scope → A → List Rule) (entry : Scope → A → Entry) (name : A → List ℕ) → ((s : Scope) (x : A) → rules s x ≡ [] → s.names (name x) ≡ None)
    → (scope : Scope) (items : List A) → one_by_one rules entry scope items ≡ [] → EachNew scope.names name items
each-new rules entry name new scope [] nothing = tt
each-new rules entry name new scope (x ∷ items) nothing =
    let next : Scope = declaring scope (entry scope x ∷ []) in
    let others : List Rule = one_by_one rules entry next items in (
      new scope x (nothing-first (rules scope x) others nothing),
      each-before scope.names (entry scope x ∷ []) name items (each-new rules entry name new next items (nothing-rest (rules scope x) others nothing)),
    )

new-name : (names : Names) (name : List ℕ) → check_new_name names name ≡ [] → names name ≡ None
new-name names name nothing = none-is (names name) (kept (is_none (names name)) rule.DuplicateName nothing)

-- ---- types behind other names

-- nothing has this name, or something that has this meaning and is new
abbrev IsNew : Meaning → Option Meaning → Option Meaning → Type 0
IsNew m found before = (found ≡ None) ⊎ ((found ≡ Some m) × (before ≡ None))

one-more : (names : Names) (m : Meaning) (x name : List ℕ) (rest : Option Meaning) → names x ≡ None → IsNew m rest (names name) → (b : Bool) → bytes_eq x name ≡ b
    → IsNew m (option_or rest (if b then Some m else None)) (names name)
one-more names m x name rest new (inr found) b is = inr (ap (λ o. option_or o (if b then Some m else None)) found.0, found.1)
one-more names m x name rest new (inl none) true is = inr (ap (λ o. option_or o (Some m)) none, subst (λ k. names k ≡ None) ((bytes_decides x name).0 is) new)
one-more names m x name rest new (inl none) false is = inl (ap (λ o. option_or o None) none)

listed-new : {A : Type 0} (names : Names) (of : A → List ℕ) (m : Meaning) (items : List A) → EachNew names of items → (name : List ℕ) → IsNew m (listed (map (λ x. (of x, m)) items) name) (names name)
listed-new names of m [] new name = inl refl
listed-new names of m (x ∷ items) new name =
    one-more names m (of x) name (listed (map (λ x. (of x, m)) items) name) new.0 (listed-new names of m items new.1 name) (bytes_eq (of x) name) refl

type-before : (m : Meaning) → type_meant (Some m) ≡ None → (found before : Option Meaning) → IsNew m found before → type_meant (option_or found before) ≡ type_meant before
type-before m none found before (inl is) = ap (λ o. type_meant (option_or o before)) is
type-before m none found before (inr is) = ap (λ o. type_meant (option_or o before)) is.0 ∙ none ∙ sym (ap type_meant is.1)

-- what is no type leaves the types as they are
types-behind : {A : Type 0} (names : Names) (of : A → List ℕ) (m : Meaning) → type_meant (Some m) ≡ None → (items : List A) → EachNew names of items → (name : List ℕ)
    → type_meant (behind names (map (λ x. (of x, m)) items) name) ≡ type_meant (names name)
types-behind names of m none items new name = type-before m none (listed (map (λ x. (of x, m)) items) name) (names name) (listed-new names of m items new name)

member-types : (scope : Scope) (m : Member) → check_member scope m ≡ [] → (name : List ℕ) → type_meant (behind scope.names (member_entries scope.names m) name) ≡ type_meant (scope.names name)
member-types scope (member.Ports port_type ports) nothing name =
    let of = port_type_meant (scope.names port_type) in
    types-behind scope.names (λ (port : List ℕ). port) (meaning.Port of) refl ports
    (each-new check_port_name (port_entry of) (λ (port : List ℕ). port) (λ s port fine. new-name s.names port fine) scope ports
    (nothing-rest (unless (is_some of) rule.UnknownName) (one_by_one check_port_name (port_entry of) scope ports) nothing)) name
member-types scope (member.Constants cs) nothing name =
    let of = resolved scope.names cs.type_name in
    types-behind scope.names (λ (c : Constant). c.name) (meaning.Constant of) refl cs.constants
    (each-new (check_constant of) (constant_entry of) (λ (c : Constant). c.name)
    (λ s c fine. new-name s.names c.name (nothing-first (check_new_name s.names c.name) (value c.value s (target_of of)) fine)) scope cs.constants
    (nothing-rest (check_type scope.names false cs.type_name) (one_by_one (check_constant of) (constant_entry of) scope cs.constants) nothing)) name
member-types scope (member.Variables t variables) nothing name =
    let of = resolved scope.names t in
    types-behind scope.names (λ (v : MemberVariable). v.name) (meaning.Variable of) refl variables
    (each-new (check_member_variable of) (member_variable_entry of) (λ (v : MemberVariable). v.name)
    (λ s v fine. new-name s.names v.name (nothing-first (check_new_name s.names v.name) (check_initial_value s (target_of of) v.value) fine)) scope variables
    (nothing-rest (check_type scope.names true t) (one_by_one (check_member_variable of) (member_variable_entry of) scope variables) nothing)) name
member-types scope (member.Timers timers) nothing name =
    types-behind scope.names (λ (t : Timer). t.name) meaning.Timer refl timers
    (each-new check_timer_name timer_entry (λ (t : Timer). t.name) (λ s t fine. new-name s.names t.name fine) scope timers nothing) name

members-types : (scope : Scope) (members : List Member) → check_members scope members ≡ [] → (name : List ℕ) → type_meant (behind_members scope.names members name) ≡ type_meant (scope.names name)
members-types scope [] nothing name = refl
members-types scope (m ∷ members) nothing name =
    let next : Scope = declaring scope (member_entries scope.names m) in
    members-types next members (nothing-rest (check_member scope m) (check_members next members) nothing) name
    ∙ member-types scope m (nothing-first (check_member scope m) (check_members next members) nothing) name

-- ---- behaviours

module _ (definitions : List Definition) (well : AreWellTyped definitions) where
  component-types : (at : ℕ) (k : Option DefinitionKind) → kind_at definitions at ≡ k → (name : List ℕ)
      → type_meant (behind_members (module_names definitions) (members_of k) name) ≡ type_meant (module_names definitions name)
  component-types at (Some (kind.Component c)) is name = members-types (component_scope definitions at) c.members (definition_is_fine definitions well at (kind.Component c) is) name
  component-types at (Some (kind.Record r)) is name = refl
  component-types at (Some (kind.Enumerated e)) is name = refl
  component-types at (Some (kind.Port p)) is name = refl
  component-types at (Some (kind.Constants cs)) is name = refl
  component-types at (Some (kind.Template t)) is name = refl
  component-types at (Some (kind.Function f)) is name = refl
  component-types at (Some (kind.Altstep a)) is name = refl
  component-types at (Some (kind.Testcase t)) is name = refl
  component-types at None is name = refl

  scope-types : (runs_on : Option ℕ) → Types definitions (scope_on definitions runs_on)
  scope-types None name = refl
  scope-types (Some at) name = component-types at (kind_at definitions at) refl name

  known-at : (at : ℕ) (k : Option DefinitionKind) → kind_at definitions at ≡ k → All (HasParameterType definitions) (parameters_of k)
  known-at at (Some (kind.Function f)) is =
      let runs_on : Option ℕ = component_named definitions f.runs_on in
      let scope : Scope = scope_on definitions runs_on in
      let named : List Rule = check_component_name definitions f.runs_on in
      let parameters : List Rule = check_parameters scope f.parameters in
      let result : List Rule = check_result definitions f.returns in
      let body : List Rule = statements f.body (place_in scope f.parameters (returns_of definitions f.returns)) in
      each-known definitions scope f.parameters (scope-types runs_on)
      (nothing-rest named parameters (nothing-first (named ++ parameters) result (nothing-first ((named ++ parameters) ++ result) body (definition_is_fine definitions well at (kind.Function f) is))))
  known-at at (Some (kind.Altstep a)) is =
      let runs_on : Option ℕ = component_named definitions a.runs_on in
      let scope : Scope = scope_on definitions runs_on in
      let named : List Rule = check_component_name definitions a.runs_on in
      let parameters : List Rule = check_parameters scope a.parameters in
      each-known definitions scope a.parameters (scope-types runs_on)
      (nothing-rest named parameters (nothing-first (named ++ parameters) _ (definition_is_fine definitions well at (kind.Altstep a) is)))
  known-at at (Some (kind.Template t)) is = each-known definitions (module_scope definitions) t.parameters (λ name. refl) (parameters-fine definitions well t at is)
  known-at at (Some (kind.Record r)) is = All-nil (HasParameterType definitions)
  known-at at (Some (kind.Enumerated e)) is = All-nil (HasParameterType definitions)
  known-at at (Some (kind.Port p)) is = All-nil (HasParameterType definitions)
  known-at at (Some (kind.Component c)) is = All-nil (HasParameterType definitions)
  known-at at (Some (kind.Constants cs)) is = All-nil (HasParameterType definitions)
  known-at at (Some (kind.Testcase t)) is = All-nil (HasParameterType definitions)
  known-at at None is = All-nil (HasParameterType definitions)

  pub all_parameters_known : (at : ℕ) → All (HasParameterType definitions) (parameters_of (kind_at definitions at))
  all_parameters_known at = known-at at (kind_at definitions at) refl

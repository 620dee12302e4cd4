-- What names mean at a site.
use mathlib.Core.Path.{fun_ext}
use Rattle.std.proofs.Common.{◌≡◌, refl, sym, ap, ◌∙◌, ℕ, suc, ◌+◌, ◌<◌, ◌≤◌, Bool, true, false, ◌||◌, List, [], ◌∷◌, length, get_or, drop, Option, Some, None, is_some, bytes_eq, add-one, drop-cons, if◌then◌else◌}
use Rattle.std.proofs.lemmas.List.{drop_all}
use Rattle.std.specs.List.{list_any}
use Rattle.std.specs.Option.{option_or}
use Rattle.ttcn_syntax.specs.declared.tree.definition.Definition.{Definition}
use Rattle.ttcn_syntax.specs.declared.tree.definition.Parameter.{Parameter}
use Rattle.check_rules.specs.Calls.{component_named, parameters_of}
use Rattle.check_scope.specs.Names.{Entry, Scope, declaring, kind_at, listed}
use Rattle.check_scope.specs.Scopes.{scope_on}
use Rattle.ttcn_syntax.specs.declared.tree.definition.DefinitionKind.{DefinitionKind}
use Rattle.check_scope.specs.Typings.{type_known, typed}
use Rattle.check_scope.specs.declared.names.Meaning.{Meaning}
use Rattle.check_scope.specs.declared.types.DataType.{DataType}
use Rattle.check_rules.specs.Definitions.{parameter_entry, with_parameters}
use Rattle.semantics.specs.Sites.{Site, behaviour_scope, component_name, runs_on, scope_at, scope_with}
use Rattle.graph_sites.specs.internal.OwnNames.{is_one_of, own_names}

or-assoc : {A : Type 0} (o p q : Option A) → option_or (option_or o p) q ≡ option_or o (option_or p q)
or-assoc (Some x) p q = refl
or-assoc None p q = refl

names-with : (scope : Scope) (entries : List Entry) (name : List ℕ) → (scope_with scope entries).names name ≡ option_or (own_names entries name) (scope.names name)
names-with scope [] name = refl
names-with scope (e ∷ es) name =
    ap (option_or (listed (e ∷ []) name)) (names-with scope es name) ∙ sym (or-assoc (listed (e ∷ []) name) (own_names es name) (scope.names name))

definitions-with : (scope : Scope) (entries : List Entry) → (scope_with scope entries).definitions ≡ scope.definitions
definitions-with scope [] = refl
definitions-with scope (e ∷ es) = definitions-with scope es

itself-with : (scope : Scope) (entries : List Entry) → (scope_with scope entries).itself ≡ scope.itself
itself-with scope [] = refl
itself-with scope (e ∷ es) = itself-with scope es

definitions-behind : (scope : Scope) (parameters : List Parameter) → (with_parameters scope parameters).definitions ≡ scope.definitions
definitions-behind scope [] = refl
definitions-behind scope (p ∷ ps) = definitions-behind (declaring scope (parameter_entry scope p ∷ [])) ps

module _ (definitions : List Definition) (site : Site) where
  -- the scope at a site is of the module
  pub definitions-at : (scope_at definitions site).definitions ≡ definitions
  definitions-at = definitions-with (behaviour_scope definitions site.behaviour) site.declared
      ∙ definitions-behind (scope_on definitions (runs_on definitions site.behaviour)) (parameters_of (kind_at definitions site.behaviour))

  -- and of what `self` is at the beginning of the behaviour
  pub itself-at : (scope_at definitions site).itself ≡ (behaviour_scope definitions site.behaviour).itself
  itself-at = itself-with (behaviour_scope definitions site.behaviour) site.declared

  module _ (outer : Scope) (is : outer ≡ behaviour_scope definitions site.behaviour) (name : List ℕ) where
    pub found-inside : (m : Meaning) → Some m ≡ own_names site.declared name → Some m ≡ (scope_at definitions site).names name
    found-inside m own =
        ap (λ o. option_or o ((behaviour_scope definitions site.behaviour).names name)) own ∙ sym (names-with (behaviour_scope definitions site.behaviour) site.declared name)

    pub found-outside : (found : Option Meaning) → None ≡ own_names site.declared name → found ≡ outer.names name → found ≡ (scope_at definitions site).names name
    found-outside found own out =
        out ∙ ap (λ (s : Scope). s.names name) is ∙ ap (λ o. option_or o ((behaviour_scope definitions site.behaviour).names name)) own
        ∙ sym (names-with (behaviour_scope definitions site.behaviour) site.declared name)

declared-one : (b : Bool) (m : Meaning) (o : Option Meaning) (rest : Bool) → is_some o ≡ rest → is_some (option_or (if b then Some m else None) o) ≡ (b || rest)
declared-one true m o rest is = refl
declared-one false m o rest is = is

-- a name is declared among entries
pub declared-among : (entries : List Entry) (name : List ℕ) → is_some (own_names entries name) ≡ list_any (λ entry. bytes_eq entry.0 name) entries
declared-among [] name = refl
declared-among (e ∷ es) name = declared-one (bytes_eq e.0 name) e.1 (own_names es name) (list_any (λ entry. bytes_eq entry.0 name) es) (declared-among es name)

pub known-typed : (of : Option DataType) → type_known (typed of) ≡ of
known-typed None = refl
known-typed (Some t) = refl

-- ---- parameters

-- the element at an index comes first of those that are left
drop-next : {A : Type 0} (l : List A) (i : ℕ) (x : A) → i < length l → x ≡ get_or l i x → drop i l ≡ x ∷ drop (i + 1) l
drop-next l i x within is = drop-cons l i x within ∙ ap (λ y. y ∷ drop (suc i) l) (sym is) ∙ ap (λ k. x ∷ drop k l) (sym (add-one i))

pub parameters-next : (scope next : Scope) (all : List Parameter) (i : ℕ) (p : Parameter) → i < length all → p ≡ get_or all i p
    → next ≡ declaring scope (parameter_entry scope p ∷ []) → with_parameters next (drop (i + 1) all) ≡ with_parameters scope (drop i all)
parameters-next scope next all i p within at is = ap (λ s. with_parameters s (drop (i + 1) all)) is ∙ sym (ap (with_parameters scope) (drop-next all i p within at))

pub parameters-end : (scope : Scope) (all : List Parameter) (i : ℕ) → length all ≤ i → scope ≡ with_parameters scope (drop i all)
parameters-end scope all i past = sym (ap (with_parameters scope) (drop_all i all past))

or-any : (b c d : Bool) → ((if b then true else c) || d) ≡ (c || (b || d))
or-any true true d = refl
or-any true false d = refl
or-any false true d = refl
or-any false false d = refl

or-false : (b : Bool) → (b || false) ≡ b
or-false true = refl
or-false false = refl

pub names-next : (old new : List ℕ → Bool) (all : List Parameter) (i : ℕ) (p : Parameter) → i < length all → p ≡ get_or all i p
    → ((other : List ℕ) → new other ≡ (if bytes_eq p.name other then true else old other))
    → ((name : List ℕ) → (old name || is_one_of (drop i all) name) ≡ is_one_of all name) → (name : List ℕ) → (new name || is_one_of (drop (i + 1) all) name) ≡ is_one_of all name
names-next old new all i p within at is kept name =
    ap (λ b. b || is_one_of (drop (i + 1) all) name) (is name) ∙ or-any (bytes_eq p.name name) (old name) (is_one_of (drop (i + 1) all) name)
    ∙ ap (λ ps. old name || is_one_of ps name) (sym (drop-next all i p within at)) ∙ kept name

pub names-end : (old : List ℕ → Bool) (all : List Parameter) (i : ℕ) → length all ≤ i
    → ((name : List ℕ) → (old name || is_one_of (drop i all) name) ≡ is_one_of all name) → old ≡ is_one_of all
names-end old all i past kept = fun_ext (λ name. sym (or-false (old name)) ∙ ap (λ ps. old name || is_one_of ps name) (sym (drop_all i all past)) ∙ kept name)

-- the scope at the beginning of a behaviour, step by step
pub at-beginning : (definitions : List Definition) (at : ℕ) (found : Option DefinitionKind) (named : Option (List ℕ)) (runs : Option ℕ) (gone new : Scope) (parameters : List Parameter)
    → found ≡ kind_at definitions at → named ≡ component_name found → runs ≡ component_named definitions named → gone ≡ scope_on definitions runs
    → parameters ≡ parameters_of found → new ≡ with_parameters gone parameters
    → (new ≡ behaviour_scope definitions at) × (new.definitions ≡ definitions) × (parameters ≡ parameters_of (kind_at definitions at))
at-beginning definitions at found named runs gone new parameters found_is named_is runs_is gone_is parameters_is new_is =
    let on : runs ≡ runs_on definitions at = runs_is ∙ ap (component_named definitions) (named_is ∙ ap component_name found_is) in
    let all : parameters ≡ parameters_of (kind_at definitions at) = parameters_is ∙ ap parameters_of found_is in
    let whole : new ≡ behaviour_scope definitions at =
    new_is ∙ ap (λ g. with_parameters g parameters) (gone_is ∙ ap (scope_on definitions) on) ∙ ap (with_parameters (scope_on definitions (runs_on definitions at))) all in
    (whole, ap (λ (s : Scope). s.definitions) whole ∙ definitions-behind (scope_on definitions (runs_on definitions at)) (parameters_of (kind_at definitions at)), all)

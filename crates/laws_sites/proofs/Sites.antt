-- Sites behind declarations that break no rule, and the items that these declarations are.
use Rattle.std.proofs.Common.{◌≡◌, ℕ, ◌+◌, suc, Bool, true, false, ◌||◌, List, [], ◌∷◌, map, bytes_eq, slice_get, Option, Some, None, IsSomeAnd, refl, sym, ap, subst, arith}
use Rattle.std.specs.List.{All, list_any}
use Rattle.std.proofs.lemmas.List.Elements.{All-cons, All-head, All-nil, All-tail}
use Rattle.ttcn_syntax.specs.declared.tree.definition.Definition.{Definition}
use Rattle.ttcn_syntax.specs.declared.tree.definition.Parameter.{Parameter}
use Rattle.ttcn_syntax.specs.declared.tree.statement.Constant.{Constant}
use Rattle.ttcn_syntax.specs.declared.tree.statement.Constants.{Constants}
use Rattle.ttcn_syntax.specs.declared.tree.statement.Statement.{Statement}
use Rattle.ttcn_syntax.specs.declared.tree.statement.Timer.{Timer}
use Rattle.ttcn_syntax.specs.declared.tree.statement.Variable.{Variable}
use Rattle.ttcn_syntax.specs.declared.tree.statement.Variables.{Variables}
use Rattle.check_rules.specs.Calls.{parameters_of}
use Rattle.check_rules.specs.Declarations.{behind_all, one_by_one}
use Rattle.check_rules.specs.Targets.{check_constant, check_constants, check_timer_name, check_timers, check_type, check_variable, check_variables, constant_entry, variable_entry}
use Rattle.check_scope.specs.Names.{Entry, Scope, kind_at, resolved}
use Rattle.check_scope.specs.declared.names.Meaning.{Meaning}
use Rattle.check_scope.specs.declared.names.Meaning.TheVariants as meaning
use Rattle.check_scope.specs.declared.rule.Rule.{Rule}
use Rattle.check_scope.specs.declared.types.DataType.{DataType}
use Rattle.laws_checker.proofs.Nothing.{nothing-first, nothing-rest}
use Rattle.laws_checker.specs.Laws.{IsKnown}
use Rattle.laws_sites.proofs.Outside.{parameters-free, unseen-before, unseen-in-front}
use Rattle.laws_sites.specs.Standing.{IsFineItem, IsFineName, IsFineSite, IsFineVariable, IsFree}
use Rattle.laws_statements.proofs.Growing.{constant-new, new-unseen, new_name_within, variable-new, within_both, within_itself}
use Rattle.laws_statements.proofs.Members.{name_leaves_whole}
use Rattle.laws_statements.proofs.Naming.{same-name}
use Rattle.laws_statements.proofs.Typing.{type_known}
use Rattle.laws_statements.proofs.Within.{type_stays}
use Rattle.laws_statements.specs.Within.{IsWithin}
use Rattle.semantics.specs.Items.{Doing, Name, action_of, declarations}
use Rattle.semantics.specs.Sites.{Site, behaviour_scope, constant_entries, is_own, runs_on, scope_at, site_behind, site_with, timer_entries, variable_entries}
use Rattle.check_rules.specs.Definitions.{parameter_entry}
use Rattle.check_scope.specs.Scopes.{scope_on}
use Rattle.check_rules.specs.Rules.{AreWellTyped}

-- ---- names at a site

-- a name that is new at a site is free in the behaviour
pub new-free : (definitions : List Definition) (at : ℕ) (site : Site) (name : List ℕ) → IsFineSite definitions at site → (scope_at definitions site).names name ≡ None → IsFree definitions at name
new-free definitions at site name fine unseen =
    subst (λ n. IsFree definitions n name) fine.within
    (unseen-in-front parameter_entry (scope_on definitions (runs_on definitions site.behaviour)) (parameters_of (kind_at definitions site.behaviour)) name
    (unseen-before (behaviour_scope definitions site.behaviour) site.declared name unseen))

either : (P : Type 0) (a b : Bool) → (a ≡ true → P) → (b ≡ true → P) → (a || b) ≡ true → P
either P true b first other is = first refl
either P false b first other is = other is

any-named : {A : Type 0} (name-of : A → List ℕ) (P : List ℕ → Type 0) (name : List ℕ) (xs : List A) → All (λ x. P (name-of x)) xs → list_any (λ x. bytes_eq (name-of x) name) xs ≡ true → P name
any-named name-of P name [] all is = absurd (let e = is in cc)
any-named name-of P name (x ∷ xs) all is =
    either (P name) (bytes_eq (name-of x) name) (list_any (λ y. bytes_eq (name-of y) name) xs)
    (λ same. subst P (same-name (name-of x) name same) (All-head (λ y. P (name-of y)) x xs all))
    (any-named name-of P name xs (All-tail (λ y. P (name-of y)) x xs all)) is

-- a name that is the behaviour's own is free in it
pub own-free : (definitions : List Definition) → AreWellTyped definitions → (at : ℕ) (site : Site) (name : List ℕ) → IsFineSite definitions at site → is_own definitions site name ≡ true → IsFree definitions at name
own-free definitions well at site name fine own =
    either (IsFree definitions at name) (list_any (λ parameter. bytes_eq parameter.name name) (parameters_of (kind_at definitions site.behaviour))) (list_any (λ entry. bytes_eq entry.0 name) site.declared)
    (λ is. subst (λ n. IsFree definitions n name) fine.within
    (any-named (λ (p : Parameter). p.name) (IsFree definitions site.behaviour) name (parameters_of (kind_at definitions site.behaviour)) (parameters-free definitions well site.behaviour) is))
    (λ is. any-named (λ (entry : Entry). entry.0) (IsFree definitions at) name site.declared fine.declared is) own

-- ---- sites behind one name

pub site-behind-one : (definitions : List Definition) (at : ℕ) (site : Site) (name : List ℕ) (m : Meaning) → IsFineSite definitions at site → (scope_at definitions site).names name ≡ None
    → IsKnown (scope_at definitions site).definitions m → IsFineSite definitions at (site_with site (name, m))
site-behind-one definitions at site name m fine unseen known = record {
  within = fine.within;
  declared = All-cons (λ (entry : Entry). IsFree definitions at entry.0) (name, m) site.declared (new-free definitions at site name fine unseen) fine.declared;
  whole = name_leaves_whole (scope_at definitions site) fine.whole name m known;
}

-- the scope there
pub behind-scope : {A : Type 0} (definitions : List Definition) (name : A → List ℕ) (m : Meaning) (site : Site) (xs : List A)
    → scope_at definitions (site_behind site (map (λ x. (name x, m)) xs)) ≡ behind_all (λ s x. (name x, m)) (scope_at definitions site) xs
behind-scope definitions name m site [] = refl
behind-scope definitions name m site (x ∷ xs) = behind-scope definitions name m (site_with site (name x, m)) xs

-- ---- names that are declared one by one

module _ {A : Type 0} (definitions : List Definition) (at : ℕ) (rules : Scope → A → List Rule) (name : A → List ℕ) (m : Meaning)
    (new : (s : Scope) (x : A) → rules s x ≡ [] → s.names (name x) ≡ None) (known : (all : List Definition) → IsKnown all m) where
  abbrev entry-of : A → Entry
  entry-of x = (name x, m)

  abbrev IsFineAt : Site → List A → Type 0
  IsFineAt site xs = one_by_one rules (λ s x. entry-of x) (scope_at definitions site) xs ≡ []

  first-fine : (site : Site) (x : A) (xs : List A) → IsFineAt site (x ∷ xs) → rules (scope_at definitions site) x ≡ []
  first-fine site x xs nothing =
      nothing-first (rules (scope_at definitions site) x) (one_by_one rules (λ s x. entry-of x) (scope_at definitions (site_with site (entry-of x))) xs) nothing

  others-fine : (site : Site) (x : A) (xs : List A) → IsFineAt site (x ∷ xs) → IsFineAt (site_with site (entry-of x)) xs
  others-fine site x xs nothing =
      nothing-rest (rules (scope_at definitions site) x) (one_by_one rules (λ s x. entry-of x) (scope_at definitions (site_with site (entry-of x))) xs) nothing

  next-fine : (site : Site) (x : A) → IsFineSite definitions at site → rules (scope_at definitions site) x ≡ [] → IsFineSite definitions at (site_with site (entry-of x))
  next-fine site x fine nothing =
      site-behind-one definitions at site (name x) m fine (new (scope_at definitions site) x nothing) (known (scope_at definitions site).definitions)

  -- the site behind all
  pub behind-fine : (site : Site) (xs : List A) → IsFineSite definitions at site → IsFineAt site xs → IsFineSite definitions at (site_behind site (map entry-of xs))
  behind-fine site [] fine nothing = fine
  behind-fine site (x ∷ xs) fine nothing =
      behind-fine (site_with site (entry-of x)) xs (next-fine site x fine (first-fine site x xs nothing)) (others-fine site x xs nothing)

  -- the declarations of a statement, where this is known of each name behind those before it
  module _ (s : Statement) (first : Scope) (all : List A)
      (is : (scope : Scope) (k : ℕ) (x : A) → IsWithin first scope → slice_get all k ≡ Some x → rules scope x ≡ [] → IsFineName scope k (action_of s)) where
    pub names-fine : (site : Site) (k : ℕ) (xs : List A) → ((j : ℕ) → slice_get all (j + k) ≡ slice_get xs j) → IsFineSite definitions at site → IsWithin first (scope_at definitions site)
        → IsFineAt site xs → All (IsFineItem definitions at) (declarations site s k (map entry-of xs))
    names-fine site k [] stand fine within nothing = All-nil (IsFineItem definitions at)
    names-fine site k (x ∷ xs) stand fine within nothing =
        let next : Site = site_with site (entry-of x) in
        let here : rules (scope_at definitions site) x ≡ [] = first-fine site x xs nothing in
        All-cons (IsFineItem definitions at) (Doing site s (Name k)) (declarations next s (k + 1) (map entry-of xs))
        (fine, is (scope_at definitions site) k x within (subst (λ n. slice_get all n ≡ Some x) (omega arith) (stand 0)) here)
        (names-fine next (k + 1) xs (λ j. subst (λ n. slice_get all n ≡ slice_get xs j) (omega arith) (stand (suc j)))
        (next-fine site x fine here)
        (within_both first (scope_at definitions site) (scope_at definitions next) within (new_name_within (scope_at definitions site) (name x) m (new (scope_at definitions site) x here)))
        (others-fine site x xs nothing))

-- ---- the three kinds of declarations

there : {A : Type 0} (P : A → Type 0) (o : Option A) (x : A) → o ≡ Some x → P x → IsSomeAnd o P
there P o x is holds = subst (λ o. IsSomeAnd o P) (sym is) holds

module _ (definitions : List Definition) (at : ℕ) (site : Site) (fine : IsFineSite definitions at site) where
  abbrev here : Scope
  here = scope_at definitions site

  module _ (vs : Variables) (nothing : check_variables here vs ≡ []) where
    abbrev of-variables : Option DataType
    of-variables = resolved here.names vs.type_name

    typed : check_type here.names true vs.type_name ≡ []
    typed = nothing-first (check_type here.names true vs.type_name) (one_by_one (check_variable of-variables) (variable_entry of-variables) here vs.variables) nothing

    each-variable : one_by_one (check_variable of-variables) (variable_entry of-variables) here vs.variables ≡ []
    each-variable = nothing-rest (check_type here.names true vs.type_name) (one_by_one (check_variable of-variables) (variable_entry of-variables) here vs.variables) nothing

    pub behind-variables-fine : IsFineSite definitions at (site_behind site (variable_entries here vs))
    behind-variables-fine =
        behind-fine definitions at (check_variable of-variables) (λ (v : Variable). v.name) (meaning.Variable of-variables) (variable-new of-variables)
        (λ all. type_known here.names true vs.type_name typed) site vs.variables fine each-variable

    pub variables-fine : (s : Statement) → ((scope : Scope) (k : ℕ) → IsFineVariable scope (resolved scope.names vs.type_name) (slice_get vs.variables k) → IsFineName scope k (action_of s))
        → All (IsFineItem definitions at) (declarations site s 0 (variable_entries here vs))
    variables-fine s is =
        names-fine definitions at (check_variable of-variables) (λ (v : Variable). v.name) (meaning.Variable of-variables) (variable-new of-variables)
        (λ all. type_known here.names true vs.type_name typed) s here vs.variables
        (λ scope k v within stands rules. is scope k
        (subst (λ of. IsFineVariable scope of (slice_get vs.variables k)) (sym (type_stays here scope within true vs.type_name typed))
        (there (λ (v : Variable). check_variable of-variables scope v ≡ []) (slice_get vs.variables k) v stands rules)))
        site 0 vs.variables (λ j. ap (slice_get vs.variables) (omega arith)) fine (within_itself here) each-variable

  module _ (cs : Constants) (nothing : check_constants here cs ≡ []) where
    abbrev of-constants : Option DataType
    of-constants = resolved here.names cs.type_name

    typed-constants : check_type here.names false cs.type_name ≡ []
    typed-constants = nothing-first (check_type here.names false cs.type_name) (one_by_one (check_constant of-constants) (constant_entry of-constants) here cs.constants) nothing

    each-constant : one_by_one (check_constant of-constants) (constant_entry of-constants) here cs.constants ≡ []
    each-constant = nothing-rest (check_type here.names false cs.type_name) (one_by_one (check_constant of-constants) (constant_entry of-constants) here cs.constants) nothing

    pub behind-constants-fine : IsFineSite definitions at (site_behind site (constant_entries here cs))
    behind-constants-fine =
        behind-fine definitions at (check_constant of-constants) (λ (c : Constant). c.name) (meaning.Constant of-constants) (constant-new of-constants)
        (λ all. type_known here.names false cs.type_name typed-constants) site cs.constants fine each-constant

    pub constants-fine : (s : Statement)
        → ((scope : Scope) (k : ℕ) → IsSomeAnd (slice_get cs.constants k) (λ c. check_constant (resolved scope.names cs.type_name) scope c ≡ []) → IsFineName scope k (action_of s))
        → All (IsFineItem definitions at) (declarations site s 0 (constant_entries here cs))
    constants-fine s is =
        names-fine definitions at (check_constant of-constants) (λ (c : Constant). c.name) (meaning.Constant of-constants) (constant-new of-constants)
        (λ all. type_known here.names false cs.type_name typed-constants) s here cs.constants
        (λ scope k c within stands rules. is scope k
        (subst (λ of. IsSomeAnd (slice_get cs.constants k) (λ c. check_constant of scope c ≡ [])) (sym (type_stays here scope within false cs.type_name typed-constants))
        (there (λ (c : Constant). check_constant of-constants scope c ≡ []) (slice_get cs.constants k) c stands rules)))
        site 0 cs.constants (λ j. ap (slice_get cs.constants) (omega arith)) fine (within_itself here) each-constant

  module _ (timers : List Timer) (nothing : check_timers here timers ≡ []) where
    pub behind-timers-fine : IsFineSite definitions at (site_behind site (timer_entries timers))
    behind-timers-fine =
        behind-fine definitions at check_timer_name (λ (t : Timer). t.name) meaning.Timer (λ s t rules. new-unseen s.names t.name rules) (λ all. tt) site timers fine nothing

    pub timers-fine : (s : Statement) → ((scope : Scope) (k : ℕ) → IsSomeAnd (slice_get timers k) (λ t. check_timer_name scope t ≡ []) → IsFineName scope k (action_of s))
        → All (IsFineItem definitions at) (declarations site s 0 (timer_entries timers))
    timers-fine s is =
        names-fine definitions at check_timer_name (λ (t : Timer). t.name) meaning.Timer (λ s t rules. new-unseen s.names t.name rules) (λ all. tt) s here timers
        (λ scope k t within stands rules. is scope k (there (λ (t : Timer). check_timer_name scope t ≡ []) (slice_get timers k) t stands rules))
        site 0 timers (λ j. ap (slice_get timers) (omega arith)) fine (within_itself here) nothing

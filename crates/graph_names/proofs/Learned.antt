-- What is known of names that were added one by one.
use Rattle.std.proofs.Common.{◌≡◌, refl, sym, ap, subst, ◌∙◌, ℕ, zero, suc, ◌+◌, ◌<◌, ◌≤◌, Bool, true, false, ◌||◌, List, [], ◌∷◌, ◌++◌, map, length, get_or, slice_get, drop, slice_index_or, Option, Some, None, Result, Ok, Err, is_some, true≢false, bytes_eq, if◌then◌else◌, arith, inl, inr}
use Rattle.std.proofs.lemmas.List.{drop_all}
use Rattle.std.proofs.lemmas.List.Elements.{Contains-append_left, Contains-append_right, Contains-append_cases}
use Rattle.std.proofs.lemmas.Map.Views.{Contains-from_any}
use Rattle.std.specs.Cmp.Lexicographic.{nat_list_eq_equiv}
use Rattle.std.specs.List.{Contains, flat_map, list_any}
use Rattle.std.specs.Option.{option_map}
use Rattle.std.specs.Result.{OnOk}
use Rattle.check_scope.proofs.Lookups.{drop-next}
use Rattle.syntax_equality.specs.Equality.{name_one}
use Rattle.ttcn_syntax.specs.declared.tree.definition.Definition.{Definition}
use Rattle.check_scope.specs.Names.{kind_at}
use Rattle.semantics.specs.Items.{Item}
use Rattle.graph_items.specs.Begun.{IsBegunBy}
use Rattle.graph_items.specs.declared.first.First.{First}
use Rattle.graph_items.specs.declared.first.First.TheVariants as first
use Rattle.graph_names.specs.Known.{AreKnown, Known, names_of, names_of_kind}
use Rattle.graph_names.specs.internal.Learning.{all_names, names_of_definition, names_of_first, with_name, with_names}

pub names-append : (names a b : Known) → with_names names (a ++ b) ≡ with_names (with_names names a) b
names-append names [] b = refl
names-append names (name ∷ a) b = names-append (with_name names name) a b

-- names that are added, and others behind them
pub added-too : {A E : Type 0} (r : Result A E) (names between new a b : Known) → between ≡ with_names names a → OnOk r (new ≡ with_names between b)
    → OnOk r (new ≡ with_names names (a ++ b))
added-too (Ok x) names between new a b is more = more ∙ ap (λ n. with_names n b) is ∙ sym (names-append names a b)
added-too (Err e) names between new a b is more = tt

-- ---- names that were met

any-push : (p : List ℕ → Bool) (names : Known) (name : List ℕ) → list_any p (names ++ name ∷ []) ≡ (if p name then true else list_any p names)
any-push p [] name = by (p name)
  where
    by : (b : Bool) → (b || false) ≡ (if b then true else false)
    by true = refl
    by false = refl
any-push p (first ∷ names) name = ap (λ b. p first || b) (any-push p names name) ∙ by (p first) (p name) (list_any p names)
  where
    by : (a b c : Bool) → (a || (if b then true else c)) ≡ (if b then true else (a || c))
    by true true c = refl
    by true false c = refl
    by false b c = refl

-- one name more is met
pub met-more : (name : List ℕ) (old new : List ℕ → Bool) (names more : Known) → ((q : List ℕ) → new q ≡ (if bytes_eq name q then true else old q))
    → ((q : List ℕ) → old q ≡ list_any (bytes_eq q) names) → more ≡ names ++ name ∷ [] → (q : List ℕ) → new q ≡ list_any (bytes_eq q) more
met-more name old new names more put is push q =
    put q ∙ ap (λ b. if b then true else old q) (nat_list_eq_equiv.symm name q) ∙ ap (λ b. if bytes_eq q name then true else b) (is q) ∙ sym (any-push (bytes_eq q) names name)
    ∙ sym (ap (list_any (bytes_eq q)) push)

-- ---- loops

module _ {A : Type 0} (all : List A) (i : ℕ) where
  pub each-next : (of : A → List ℕ) (x : A) (old new : Known) → i < length all → x ≡ get_or all i x → new ≡ with_name old (of x)
      → with_names new (map of (drop (i + 1) all)) ≡ with_names old (map of (drop i all))
  each-next of x old new below at is =
      ap (λ n. with_names n (map of (drop (i + 1) all))) is ∙ sym (ap (λ l. with_names old (map of l)) (drop-next all i x below at))

  pub each-end : (of : A → List ℕ) (old : Known) → length all ≤ i → old ≡ with_names old (map of (drop i all))
  each-end of old past = sym (ap (λ l. with_names old (map of l)) (drop_all i all past))

  pub all-next : (of : A → Known) (x : A) (old new : Known) → i < length all → x ≡ get_or all i x → new ≡ with_names old (of x)
      → with_names new (flat_map of (drop (i + 1) all)) ≡ with_names old (flat_map of (drop i all))
  all-next of x old new below at is =
      ap (λ n. with_names n (flat_map of (drop (i + 1) all))) is ∙ sym (names-append old (of x) (flat_map of (drop (i + 1) all)))
      ∙ sym (ap (λ l. with_names old (flat_map of l)) (drop-next all i x below at))

  pub all-end : (of : A → Known) (old : Known) → length all ≤ i → old ≡ with_names old (flat_map of (drop i all))
  all-end of old past = sym (ap (λ l. with_names old (flat_map of l)) (drop_all i all past))

-- ---- names that are known

pub know-one : (names : Known) (name other : List ℕ) → Contains names other → Contains (with_name names name) other
know-one names name other h = by (list_any (bytes_eq name) names)
  where
    by : (b : Bool) → Contains (if b then names else (names ++ name ∷ [])) other
    by true = h
    by false = Contains-append_left names (name ∷ []) other h

know-it : (names : Known) (name : List ℕ) → Contains (with_name names name) name
know-it names name = by (list_any (bytes_eq name) names) refl
  where
    by : (b : Bool) → list_any (bytes_eq name) names ≡ b → Contains (if b then names else (names ++ name ∷ [])) name
    by true is = Contains-from_any name_one name names is
    by false is = Contains-append_right names (name ∷ []) name (0, omega arith, refl)

-- what was known stays so
pub know-before : (names more : Known) → AreKnown (with_names names more) names
know-before names [] other h = h
know-before names (name ∷ more) other h = know-before (with_name names name) more other (know-one names name other h)

pub know-all : (names more : Known) → AreKnown (with_names names more) more
know-all names [] other h = absurd (let below = h.1 in omega (arith, below))
know-all names (name ∷ more) other h = elim (Contains-append_cases (name ∷ []) more other h) as (λ _. Contains (with_names (with_name names name) more) other) [
  | inl here ↦ know-before (with_name names name) more other (subst (Contains (with_name names name)) (alone name other here.0 here.1 here.2) (know-it names name))
  | inr behind ↦ know-all (with_name names name) more other behind
]
  where
    alone : (name other : List ℕ) (k : ℕ) → k < length (name ∷ []) → slice_index_or (name ∷ []) k other ≡ other → name ≡ other
    alone name other zero below is = is
    alone name other (suc k) below is = absurd (omega (arith, below))

some-is : {X : Type 0} {a b : X} → ◌≡◌ {A = Option X} (Some a) (Some b) → a ≡ b
some-is {a = a} h = ap (λ o. elim o as (λ _. _) [ None ↦ a | Some x ↦ x ]) h

-- ---- all lists, and all definitions

-- what is known of one is known where all are
among : {A : Type 0} (of : A → Known) (all : List A) (i : ℕ) (d : A) (name : List ℕ) → i < length all → Contains (of (get_or all i d)) name → Contains (flat_map of all) name
among of [] i d name below h = absurd (omega (arith, below))
among of (x ∷ all) zero d name below h = Contains-append_left (of x) (flat_map of all) name h
among of (x ∷ all) (suc i) d name below h = Contains-append_right (of x) (flat_map of all) name (among of all i d name (omega (arith, below)) h)

get-any : {A : Type 0} (all : List A) (i : ℕ) (d e : A) → i < length all → get_or all i d ≡ get_or all i e
get-any [] i d e below = absurd (omega (arith, below))
get-any (x ∷ all) zero d e below = refl
get-any (x ∷ all) (suc i) d e below = get-any all i d e (omega (arith, below))

found-among : {A : Type 0} (of : A → Known) (all : List A) (i : ℕ) (x : A) (name : List ℕ) → slice_get all i ≡ Some x → Contains (of x) name → Contains (flat_map of all) name
found-among of [] i x name is h = absurd (true≢false (sym (ap is_some is)))
found-among of (y ∷ all) zero x name is h = Contains-append_left (of y) (flat_map of all) name (subst (λ z. Contains (of z) name) (sym (some-is is)) h)
found-among of (y ∷ all) (suc i) x name is h = Contains-append_right (of y) (flat_map of all) name (found-among of all i x name is h)

pub names-first : (list rest : List Item) (found : First) → IsBegunBy list found rest → names_of_first found ≡ names_of list
names-first list rest (first.Doing behaviour s part) h = sym (ap names_of h.item)
names-first list rest (first.Mark s) h = sym (ap names_of h.item)
names-first list rest (first.Waiting target) h = sym (ap names_of h.item)

module _ (definitions : List Definition) (lists : List (List Item)) where
  pub know-lists : (p : ℕ) → p < length lists → AreKnown (all_names definitions lists) (names_of (get_or lists p []))
  know-lists p below name h =
      know-before (with_names [] (flat_map names_of lists)) (flat_map names_of_definition definitions) name
      (know-all [] (flat_map names_of lists) name (among names_of lists p [] name below h))

  nothing-known : (names : Known) → AreKnown names []
  nothing-known names name h = absurd (let below = h.1 in omega (arith, below))

  by : (found : Option Definition) → ((d : Definition) → found ≡ Some d → AreKnown (all_names definitions lists) (names_of_definition d))
      → AreKnown (all_names definitions lists) (names_of_kind (option_map (λ definition. definition.kind) found))
  by None h = nothing-known (all_names definitions lists)
  by (Some d) h = h d refl

  pub know-definitions : (at : ℕ) → AreKnown (all_names definitions lists) (names_of_kind (kind_at definitions at))
  know-definitions at = by (slice_get definitions at) (λ d is name h.
      know-all (with_names [] (flat_map names_of lists)) (flat_map names_of_definition definitions) name (found-among names_of_definition definitions at d name is h))

  -- one list more
  pub lists-next : (i : ℕ) (old new : Known) → i < length lists → new ≡ with_names old (names_of (get_or lists i []))
      → with_names new (flat_map names_of (drop (i + 1) lists)) ≡ with_names old (flat_map names_of (drop i lists))
  lists-next i old new below is = all-next lists i names_of (get_or lists i []) old new below (get-any lists i [] (get_or lists i []) below) is

-- The names of what stands first at each position have slots.
use Rattle.std.proofs.Common.{◌≡◌, ℕ, ◌<◌, ◌≤◌, List, [], length, get_or, subst, sym, arith}
use Rattle.std.specs.List.{Contains}
use Rattle.std.proofs.lemmas.List.{get_or_past}
use Rattle.semantics.specs.Items.{Item}
use Rattle.step_snapshot.specs.Slots.{NoneIsMissing}
use Rattle.graph_names.specs.Known.{AreKnown, names_of}

module _ (names given all : List (List ℕ)) (same : given ≡ names) (taken : (name : List ℕ) → Contains given name → Contains all name) where
  -- what is known has slots
  pub known-slots : (of : List (List ℕ)) → AreKnown names of → NoneIsMissing all of
  known-slots of known = λ name is missing. missing (taken name (subst (λ (ns : List (List ℕ)). Contains ns name) (sym same) (known name is)))

  -- behind the last position there are no names
  pub none-behind : (items : List Item) → items ≡ [] → NoneIsMissing all (names_of items)
  none-behind items none = λ name is. absurd (let no : Contains (names_of []) name = subst (λ (xs : List Item). Contains (names_of xs) name) none is in omega (arith, no.1))

  pub items-slots : (lists : List (List Item)) → ((p : ℕ) → p < length lists → AreKnown names (names_of (get_or lists p []))) → (position : ℕ) → NoneIsMissing all (names_of (get_or lists position []))
  items-slots lists known position = λ name is missing.
      let not-within : position < length lists → ⊥ = λ less. known-slots (names_of (get_or lists position [])) (known position less) name is missing in
      let behind : length lists ≤ position = omega (arith, not-within) in
      none-behind (get_or lists position []) (get_or_past lists position [] behind) name is missing

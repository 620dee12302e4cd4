-- Values that a set keeps apart.
use Rattle.std.proofs.Common.{◌≡◌, sym, ◌∙◌, ℕ, ◌<◌, Bool, true, true≢false, List, slice_get, Some, arith, inl, inr}
use Rattle.std.specs.List.{IsDistinct}
use Rattle.std.proofs.lemmas.Bool.{cases_lt}
use Rattle.std.proofs.lemmas.Map.Keys.{apart_from_distinct}
use Rattle.std.proofs.lemmas.Option.{get_or_from_slice_get, slice_get_within}

-- no value has two places
abbrev pub HaveOnePlace : {T : Type 0} → List T → Type 0
HaveOnePlace {T = T} values = (i j : ℕ) (value : T) → slice_get values i ≡ Some value → slice_get values j ≡ Some value → i ≡ j

module _ {T : Type 0} (eq : T → T → Bool) where
  module _ (itself : (a : T) → eq a a ≡ true) (values : List T) (apart : IsDistinct eq values) where
    not-before : (value : T) (i j : ℕ) → slice_get values i ≡ Some value → slice_get values j ≡ Some value → i < j → ⊥
    not-before value i j h k below =
        let other = apart_from_distinct eq values i j value apart below (slice_get_within values j value k) in
        let one = rw (get_or_from_slice_get values i value value h) at other in
        let same = rw (get_or_from_slice_get values j value value k) at one in
        true≢false (sym (itself value) ∙ same)

    pub one-place : HaveOnePlace values
    one-place i j value h k = elim (cases_lt i j) as (λ _. i ≡ j) [
      | inl before ↦ absurd (not-before value i j h k before)
      | inr from ↦ elim (cases_lt j i) as (λ _. i ≡ j)
          [ inl behind ↦ absurd (not-before value j i k h behind) | inr to ↦ omega (arith, from, to) ]
    ]

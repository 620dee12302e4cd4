-- The last steps to states, of which the first state has none.
use Rattle.std.proofs.Common.{◌≡◌, Bor, ℕ, zero, suc, ◌-◌, ◌≤◌, List, [], ◌∷◌, map, length, get_or, Option, None, Some, refl, sym, ap, ◌∙◌, arith}
use Rattle.std.proofs.lemmas.Option.{slice_get_past, slice_get_read}
use Rattle.std.specs.List.{slice_get}
use Rattle.std.specs.Option.{option_map}
use Rattle.std.specs.Slice.{IsItemAt}

module _ {A : Type 0} where
  lent-at : (xs : List A) (k : ℕ) (r : Option (Bor A)) → IsItemAt xs k r → option_map (λ a. a.now) r ≡ slice_get xs k
  lent-at xs k None lent = sym (slice_get_past xs k lent.3)
  lent-at xs k (Some a) lent = sym (slice_get_read xs (length xs) k a.now refl lent.3.0 lent.1)

  given-at : (xs : List A) (k : ℕ) → slice_get xs k ≡ get_or (map Some xs) k None
  given-at [] k = refl
  given-at (x ∷ xs) zero = refl
  given-at (x ∷ xs) (suc k) = given-at xs k

  -- behind the first state
  pub last-at : (steps : List A) (place before : ℕ) (r : Option (Bor A)) → 1 ≤ place → before ≡ place - 1 → IsItemAt steps before r → option_map (λ a. a.now) r ≡ get_or (None ∷ map Some steps) place None
  last-at steps zero before r behind is lent = absurd (omega arith)
  last-at steps (suc place) before r behind is lent =
      let same : before ≡ place = omega arith in
      lent-at steps before r lent ∙ given-at steps before ∙ ap (λ (k : ℕ). get_or (map Some steps) k None) same

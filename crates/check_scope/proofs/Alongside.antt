-- What stands in a list beside each of others.
use Rattle.std.proofs.Common.{◌≡◌, ◌≤◌, ℕ, zero, suc, ◌+◌, ◌<◌, List, [], ◌∷◌, ◌++◌, length, get_or, take, Option, Some, None, sym, ap, ◌∙◌, arith}
use Rattle.std.proofs.lemmas.List.{length-take-le, take_all, take_more}
use Rattle.std.specs.List.{slice_get}

module _ {A B X : Type 0} (f : Option A → X) (g : Option B → X) where
  -- what stands at a position says what is said of the other there
  abbrev pub Alongside : List A → List B → Type 0
  Alongside xs ys = (at : ℕ) → f (slice_get xs at) ≡ g (slice_get ys at)

  pub alongside-none : f None ≡ g None → Alongside [] []
  alongside-none is at = is

  one-more : (xs : List A) (ys : List B) (x : A) (y : B) → length xs ≡ length ys → f None ≡ g None → f (Some x) ≡ g (Some y)
      → Alongside xs ys → Alongside (xs ++ x ∷ []) (ys ++ y ∷ [])
  one-more [] [] x y same none is all zero = is
  one-more [] [] x y same none is all (suc at) = none
  one-more [] (b ∷ ys) x y same none is all at = absurd (omega (arith, same))
  one-more (a ∷ xs) [] x y same none is all at = absurd (omega (arith, same))
  one-more (a ∷ xs) (b ∷ ys) x y same none is all zero = all zero
  one-more (a ∷ xs) (b ∷ ys) x y same none is all (suc at) = one-more xs ys x y (omega (arith, same)) none is (λ k. all (suc k)) at

  -- one more
  pub alongside-next : (xs next : List A) (ys : List B) (i : ℕ) (x : A) (y : B) → i < length ys → y ≡ get_or ys i y → length xs ≡ i → f None ≡ g None
      → f (Some x) ≡ g (Some y) → next ≡ xs ++ x ∷ [] → Alongside xs (take i ys) → Alongside next (take (i + 1) ys)
  alongside-next xs next ys i x y inside is same none here next_is all =
      let whole : take (i + 1) ys ≡ take i ys ++ y ∷ [] = take_more ys i y inside ∙ ap (λ z. take i ys ++ z ∷ []) (sym is) in
      let more = one-more xs (take i ys) x y (same ∙ sym (length-take-le i ys (omega (arith, inside)))) none here all in
      rw (whole, next_is) more

  -- none is left
  pub alongside-end : (xs : List A) (ys : List B) (i : ℕ) → length ys ≤ i → Alongside xs (take i ys) → Alongside xs ys
  alongside-end xs ys i past all = rw (take_all i ys past) at all

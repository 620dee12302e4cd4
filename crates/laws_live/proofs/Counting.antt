-- A list whose elements differ is no longer than a list that has them all.
use Rattle.std.proofs.Common.{◌≡◌, ℕ, zero, suc, ◌<◌, ◌≤◌, List, [], ◌∷◌, length, get_or, refl, sym, ◌∙◌, arith, inl, inr}
use Rattle.std.specs.Prelude.{◌≢◌, ◌⊎◌, AllPairs, Contains}

module _ {A : Type 0} where
  abbrev In : A → List A → Type 0
  In x [] = ⊥
  In x (y ∷ ys) = (y ≡ x) ⊎ In x ys

  in-contains : (xs : List A) (x : A) → In x xs → Contains xs x
  in-contains [] x i = absurd i
  in-contains (y ∷ ys) x (inl e) = (0, omega arith, e)
  in-contains (y ∷ ys) x (inr i) = let found = in-contains ys x i in (suc found.0, omega (arith, found.1), found.2)

  contains-in : (xs : List A) (x : A) → Contains xs x → In x xs
  contains-in [] x found = absurd (omega (arith, found.1))
  contains-in (y ∷ ys) x found = from found.0 found.1 found.2 (contains-in ys x)
    where
      from : (k : ℕ) → k < length (y ∷ ys) → get_or (y ∷ ys) k x ≡ x → (Contains ys x → In x ys) → In x (y ∷ ys)
      from zero lt e rest = inl e
      from (suc k) lt e rest = inr (rest (k, omega arith, e))

  -- a list without one of its elements
  without : (ys : List A) (x : A) → In x ys → List A
  without [] x i = absurd i
  without (y ∷ ys) x (inl e) = ys
  without (y ∷ ys) x (inr i) = y ∷ without ys x i

  without-length : (ys : List A) (x : A) (i : In x ys) → length ys ≡ suc (length (without ys x i))
  unfolding without
  without-length [] x i = absurd i
  without-length (y ∷ ys) x (inl e) = omega arith
  without-length (y ∷ ys) x (inr i) = let rest = without-length ys x i in omega arith

  others : (ys : List A) (x : A) (i : In x ys) (z : A) → In z ys → x ≢ z → In z (without ys x i)
  unfolding without
  others [] x i z found differ = absurd i
  others (y ∷ ys) x (inl e) z (inl f) differ = absurd (differ (sym e ∙ f))
  others (y ∷ ys) x (inl e) z (inr k) differ = k
  others (y ∷ ys) x (inr i) z (inl f) differ = inl f
  others (y ∷ ys) x (inr i) z (inr k) differ = inr (others ys x i z k differ)

  apart : (x : A) (xs : List A) → AllPairs (λ y z. y ≢ z) (x ∷ xs) → (z : A) → In z xs → x ≢ z
  apart x xs pairs z i e =
      let found = in-contains xs z i in
      pairs 0 (suc found.0) z (omega (arith, found.1)) (omega (arith, found.1)) (e ∙ sym found.2)

  within : (xs ys : List A) → AllPairs (λ y z. y ≢ z) xs → ((x : A) → In x xs → In x ys) → length xs ≤ length ys
  within [] ys pairs all = omega arith
  within (x ∷ xs) ys pairs all =
      let i : In x ys = all x (inl refl) in
      let rest : length xs ≤ length (without ys x i) =
      within xs (without ys x i) (λ j k d lt fits. pairs (suc j) (suc k) d (omega arith) (omega arith)) (λ z found. others ys x i z (all z (inr found)) (apart x xs pairs z found)) in
      let one = without-length ys x i in
      omega arith

  pub no-longer : (xs ys : List A) → AllPairs (λ y z. y ≢ z) xs → ((x : A) → Contains xs x → Contains ys x) → length xs ≤ length ys
  no-longer xs ys pairs all = within xs ys pairs (λ x i. contains-in ys x (all x (in-contains xs x i)))

-- Two ascending lists of the same keys are one list.
use Rattle.std.proofs.Common.{◌≡◌, inl, inr, ℕ, zero, suc, ◌<◌, List, [], ◌∷◌, get_or, refl, sym, ap, ◌∙◌, subst, arith}
use Rattle.std.specs.Prelude.{Contains}
use Rattle.std.specs.Ordering.{ordering_reverse}
use Rattle.std.specs.declared.cmp.Ordering.{Ordering}
use Rattle.std.specs.declared.cmp.Ordering.TheVariants.{Less, Greater}
use Rattle.std.specs.Cmp.{IsTotalOrder, tied_itself}
use Rattle.std.proofs.lemmas.List.Elements.{Contains-append_cases, Contains-append_right, All-contains}
use Rattle.summary.specs.Ascent.{Ascends}
use Rattle.summary.specs.KeySet.{SameKeys, Within}

only-one : {K : Type 0} (x k : K) → Contains (x ∷ []) k → x ≡ k
only-one x k h = single h.0 h.1 h.2
  where
    single : (n : ℕ) → n < 1 → get_or (x ∷ []) n k ≡ k → x ≡ k
    single zero l e = e
    single (suc n) l e = absurd (omega arith)

module _ {K : Type 0} {R : K → K → Ordering} (o : IsTotalOrder R) where
  rest-ascends : (x : K) (xs : List K) → Ascends R (x ∷ xs) → Ascends R xs
  rest-ascends x xs up i j d h l = up (suc i) (suc j) d (omega arith) (omega arith)

  first-below : (x : K) (xs : List K) → Ascends R (x ∷ xs) → (k : K) → Contains xs k → R x k ≡ Less
  first-below x xs up k = All-contains (λ l. R x l ≡ Less) xs k (λ n d l. up 0 (suc n) d (omega arith) (omega arith))

  not-below-itself : (x : K) → R x x ≡ Less → ⊥
  not-below-itself x h = let tie = tied_itself o x in cc

  not-both-below : (x y : K) → R x y ≡ Less → R y x ≡ Less → ⊥
  not-both-below x y h k = let turned = o.antisymm x y in let less : ordering_reverse (R y x) ≡ Greater = ap ordering_reverse k in cc

  same-first : (x y : K) (xs ys : List K) → Ascends R (x ∷ xs) → Ascends R (y ∷ ys) → SameKeys (x ∷ xs) (y ∷ ys) → x ≡ y
  same-first x y xs ys up vp same =
      elim (Contains-append_cases (y ∷ []) ys x (same.0 x (0, omega arith, refl))) [
        | inl a ↦ sym (only-one y x a)
        | inr a ↦ elim (Contains-append_cases (x ∷ []) xs y (same.1 y (0, omega arith, refl))) [
          | inl b ↦ only-one x y b
          | inr b ↦ absurd (not-both-below x y (first-below x xs up y b) (first-below y ys vp x a))
        ]
      ]

  rest-within : (x y : K) (xs ys : List K) → Ascends R (x ∷ xs) → x ≡ y → Within (x ∷ xs) (y ∷ ys) → Within xs ys
  rest-within x y xs ys up e f k h =
      elim (Contains-append_cases (y ∷ []) ys k (f k (Contains-append_right (x ∷ []) xs k h))) [
        | inl a ↦ absurd (not-below-itself x (subst (λ l. R x l ≡ Less) (sym (e ∙ only-one y k a)) (first-below x xs up k h)))
        | inr a ↦ a
      ]

  pub one-ascent : (xs ys : List K) → Ascends R xs → Ascends R ys → SameKeys xs ys → xs ≡ ys
  one-ascent [] [] up vp same = refl
  one-ascent [] (y ∷ ys) up vp same = let none = same.1 y (0, omega arith, refl) in absurd (nothing none.0 none.1)
    where
      nothing : (n : ℕ) → n < 0 → ⊥
      nothing n l = omega arith
  one-ascent (x ∷ xs) [] up vp same = let none = same.0 x (0, omega arith, refl) in absurd (nothing none.0 none.1)
    where
      nothing : (n : ℕ) → n < 0 → ⊥
      nothing n l = omega arith
  one-ascent (x ∷ xs) (y ∷ ys) up vp same =
      let first = same-first x y xs ys up vp same in
      let rest = one-ascent xs ys (rest-ascends x xs up) (rest-ascends y ys vp) (rest-within x y xs ys up first same.0, rest-within y x ys xs vp (sym first) same.1) in
      λ i. first i ∷ rest i

-- Keys that are added to an ascending list.
use Rattle.std.proofs.Common.{◌≡◌, ◌⊎◌, inl, inr, ℕ, ◌<◌, ◌≤◌, ◌+◌, ◌-◌, List, [], ◌∷◌, ◌++◌, length, get_or, Bool, true, sym, ap, ◌∙◌, subst, append-nil, arith}
use Rattle.std.specs.Prelude.{Contains}
use Rattle.std.specs.List.{insert, AllWithin, HoldsAt, dedup}
use Rattle.std.specs.List.Sorted.{IsPermutation, IsSorted, IsStrictlySortedBy, IsNonDecreasingBy, IsPartitionPoint}
use Rattle.std.specs.Ordering.{eq_by_cmp, is_lt, ordering_index, ordering_reverse}
use Rattle.std.specs.declared.cmp.Ordering.{Ordering}
use Rattle.std.specs.declared.cmp.Ordering.TheVariants.{Less, Equal, Greater}
use Rattle.std.specs.Cmp.{IsTotalOrder, IsEquivalence, Equal-is}
use Rattle.std.specs.FinSet.{IsAntisymmetric}
use Rattle.std.proofs.lemmas.List.Elements.{Contains-push_cases, Contains-append_left, All-from_recursion}
use Rattle.std.proofs.lemmas.List.Sorted.{Contains-permutation, IsPermutation-sym, IsPermutation-trans, IsPermutation-insert, IsPermutation-to_front, searchable_from_sorted}
use Rattle.std.proofs.lemmas.Bool.{cases_order}
use Rattle.std.proofs.lemmas.List.Kept.{AllPairs-cons, Contains-dedup, Contains-from_dedup}
use Rattle.std.proofs.lemmas.List.Edits.{length-insert, get_or-insert_below, get_or-insert_at, get_or-insert_above}
use std.Quotient.{eq/}
use Rattle.summary.specs.Ascent.{Ascends}
use Rattle.summary.specs.KeySet.{from_list, union, union-from_list, union_semilattice}

-- one list in another order
pub same-from-permutation : {K : Type 0} (xs ys : List K) → IsPermutation xs ys → from_list xs ≡ from_list ys
same-from-permutation xs ys p = eq/ xs ys (λ k h. Contains-permutation xs ys k p h, λ k h. Contains-permutation ys xs k (IsPermutation-sym xs ys p) h)

-- a key that is put between others
pub inserted : {K : Type 0} (xs : List K) (i : ℕ) (y : K) → from_list (insert xs i y) ≡ union (from_list xs) (from_list (y ∷ []))
inserted xs i y =
    sym (same-from-permutation (xs ++ y ∷ []) (insert xs i y) (IsPermutation-trans _ _ _ (IsPermutation-to_front xs y) (IsPermutation-insert xs i y)))
    ∙ sym (union-from_list xs (y ∷ []))

-- a key that is there already
there : {K : Type 0} (xs : List K) (y : K) → Contains xs y → from_list xs ≡ union (from_list xs) (from_list (y ∷ []))
there xs y h =
    eq/ xs (xs ++ y ∷ []) (λ k a. Contains-append_left xs (y ∷ []) k a, λ k a. elim (Contains-push_cases xs y k a) [ inl b ↦ b | inr e ↦ subst (Contains xs) e h ])
    ∙ sym (union-from_list xs (y ∷ []))

-- a key that a binary search found
pub found-there : {K : Type 0} {R : K → K → Ordering} → IsAntisymmetric R → (read xs : List K) (i : ℕ) (y : K) → read ≡ xs → i < length read → HoldsAt (λ x. R x y ≡ Equal) read i
    → from_list xs ≡ union (from_list xs) (from_list (y ∷ []))
found-there one read xs i y same within tie = there xs y (subst (λ l. Contains l y) same (i, within, one _ _ (tie y)))

module _ {K : Type 0} {R : K → K → Ordering} (o : IsTotalOrder R) where
  pub ascends-from-recursion : (xs : List K) → IsStrictlySortedBy R xs → Ascends R xs
  unfolding IsStrictlySortedBy
  ascends-from-recursion [] s = λ i j d h k. absurd (omega arith)
  ascends-from-recursion (x ∷ xs) s = AllPairs-cons (λ k l. R k l ≡ Less) x xs (All-from_recursion _ xs s.0) (ascends-from-recursion xs s.1)

  module _ (xs : List K) (i : ℕ) (y : K) (within : i ≤ length xs) (up : Ascends R xs) (below : AllWithin (λ x. R x y ≡ Less) xs 0 i) (above : AllWithin (λ x. R x y ≡ Greater) xs i (length xs)) where
    at-below : (k : ℕ) (d : K) → k < i → get_or (insert xs i y) k d ≡ get_or xs k d
    at-below k d h = get_or-insert_below xs i y d k h within

    at-above : (k : ℕ) (d : K) → i < k → get_or (insert xs i y) k d ≡ get_or xs (k - 1) d
    at-above k d h = ap (λ n. get_or (insert xs i y) n d) (omega arith) ∙ get_or-insert_above xs i y d (k - 1) (omega arith) within

    above-is : (k : ℕ) (d : K) → i < k → k < length (insert xs i y) → R y (get_or xs (k - 1) d) ≡ Less
    above-is k d h l = o.antisymm y _ ∙ ap ordering_reverse (above (k - 1) d (omega arith) (omega (arith, length-insert xs i y within)))

    from-middle : (a b : ℕ) (d : K) → i ≤ a → a < b → b < length (insert xs i y) → R (get_or (insert xs i y) a d) (get_or xs (b - 1) d) ≡ Less
    from-middle a b d h k l =
        elim (cases_order i a) [
          | inl e ↦ (λ t. R ((ap (λ n. get_or (insert xs i y) n d) (sym e) ∙ get_or-insert_at xs i y d within) t) (get_or xs (b - 1) d)) ∙ above-is b d (omega arith) l
          | inr (inl m) ↦ (λ t. R (at-above a d m t) (get_or xs (b - 1) d)) ∙ up (a - 1) (b - 1) d (omega arith) (omega (arith, length-insert xs i y within))
          | inr (inr m) ↦ absurd (omega arith)
        ]

    pub ascends-insert : Ascends R (insert xs i y)
    ascends-insert a b d h l =
        elim (cases_order b i) [
          | inl e ↦ (λ t. R (at-below a d (omega arith) t) ((ap (λ n. get_or (insert xs i y) n d) e ∙ get_or-insert_at xs i y d within) t)) ∙ below a d (omega arith) (omega arith)
          | inr (inl m) ↦ (λ t. R (at-below a d (omega arith) t) (at-below b d m t)) ∙ up a b d h (omega arith)
          | inr (inr m) ↦ after a b d h l m (cases_order a i)
        ]
      where
        after : (a b : ℕ) (d : K) → a < b → b < length (insert xs i y) → i < b → (a ≡ i) ⊎ ((a < i) ⊎ (i < a)) → R (get_or (insert xs i y) a d) (get_or (insert xs i y) b d) ≡ Less
        after a b d h l m (inl e) = (λ t. R (get_or (insert xs i y) a d) (at-above b d m t)) ∙ from-middle a b d (omega arith) h l
        after a b d h l m (inr (inl n)) = (λ t. R (at-below a d n t) (at-above b d m t)) ∙ up a (b - 1) d (omega arith) (omega (arith, length-insert xs i y within))
        after a b d h l m (inr (inr n)) = (λ t. R (get_or (insert xs i y) a d) (at-above b d m t)) ∙ from-middle a b d (omega arith) h l

  sorted-from-ascends : (xs : List K) → Ascends R xs → IsSorted R xs
  sorted-from-ascends xs up k d h l = ap is_lt (o.antisymm _ _ ∙ ap ordering_reverse (up k (k + 1) d (omega arith) l))

  -- a key that a binary search did not find, put where it belongs
  pub ascends-added : (read xs new : List K) (i : ℕ) (y : K) → read ≡ xs → new ≡ insert xs i y → i ≤ length read → Ascends R xs
      → (IsNonDecreasingBy (λ x. ordering_index (R x y)) read → IsPartitionPoint (λ x. R x y ≡ Less) (λ x. R x y ≡ Greater) read i) → Ascends R new
  ascends-added read xs new i y same put within up found = subst (Ascends R) (sym put) (subst (λ l. Ascends R (insert l i y)) same (ascends-insert read i y within ascends place.0 place.1))
    where
      ascends : Ascends R read
      ascends = subst (Ascends R) (sym same) up

      place : IsPartitionPoint (λ x. R x y ≡ Less) (λ x. R x y ≡ Greater) read i
      place = found (searchable_from_sorted o (λ x. x) read y (sorted-from-ascends read ascends))

-- a list without what it repeats
pub deduped : {K : Type 0} {E : K → K → Bool} → IsEquivalence E → ((x y : K) → E x y ≡ true → x ≡ y) → (xs : List K) → from_list (dedup E xs) ≡ from_list xs
deduped {E = E} e one xs = eq/ (dedup E xs) xs (λ k h. Contains-from_dedup E xs k h, λ k h. Contains-dedup e one xs k h)

-- a test that is true of what ties is true of a key and itself alone
pub one-by-test : {K : Type 0} {R : K → K → Ordering} {E : K → K → Bool} → IsAntisymmetric R → ((x y : K) → E x y ≡ eq_by_cmp R x y) → (x y : K) → E x y ≡ true → x ≡ y
one-by-test {R = R} one ties x y h = one x y ((Equal-is (R x y)).0 (sym (ties x y) ∙ h))

pub union-nothing : {K : Type 0} (xs : List K) → from_list xs ≡ union (from_list xs) (from_list [])
union-nothing xs = ap from_list (sym (append-nil xs)) ∙ sym (union-from_list xs [])

-- one key more of the second list
pub union-more : {K : Type 0} (all xs ys : List K) (k : K) → from_list all ≡ union (from_list xs) (from_list ys) → union (from_list all) (from_list (k ∷ [])) ≡ union (from_list xs) (from_list (ys ++ k ∷ []))
union-more all xs ys k is =
    ap (λ s. union s (from_list (k ∷ []))) is ∙ union_semilattice.associates (from_list xs) (from_list ys) (from_list (k ∷ []))
    ∙ ap (union (from_list xs)) (union-from_list ys (k ∷ []))

-- How a set is stored: as the list of its keys in the order of what each key is stored as.
use Rattle.std.specs.Prelude.{◌≡◌, ℕ, true, List, [], ◌∷◌, ◌++◌}
use Rattle.std.proofs.Common.{refl, sym, ap, ◌∙◌, append_assoc}
use Rattle.std.specs.declared.cmp.Ordering.{Ordering}
use Rattle.std.specs.List.{list_any}
use Rattle.std.specs.Ordering.{nat_cmp, eq_by_cmp, on}
use Rattle.std.specs.Cmp.{IsTotalOrder, on_total, Equal-is, both_ways, eq_by_cmp_equiv}
use Rattle.std.proofs.lemmas.Map.Views.{Contains-from_any, list_any-from_Contains}
use Rattle.std.specs.Cmp.Lexicographic.{slice_cmp, nat_list_cmp_total}
use Rattle.std.specs.FinSet as ordered
use Rattle.std.specs.FinSet.{FinSet, IsAntisymmetric, nat_cmp-IsAntisymmetric, slice_cmp-IsAntisymmetric}
use Rattle.std.specs.Coded.{Coded, Coded-set}
use base.Stored.{Gv, gnil, gnum, gcons, coded_via}
use std.Quotient.{eq/, /_set, /_rec, /_elim_prop₂}
use std.HLevel.{→_prop}
use Rattle.summary.specs.KeySet.{SameKeys, Within, KeySet, from_list}

-- a stored value as a list of numbers
abbrev pub numbers_of : Gv → List ℕ
numbers_of gnil = 0 ∷ []
numbers_of (gnum n) = 1 ∷ n ∷ []
numbers_of (gcons a b) = 2 ∷ (numbers_of a ++ numbers_of b)

-- where two lists of numbers begin with values and are one, so are the values
pub one_value : (a b : Gv) (r s : List ℕ) → numbers_of a ++ r ≡ numbers_of b ++ s → (a ≡ b) × (r ≡ s)
one_value gnil gnil r s h = (refl, cc)
one_value (gnum m) (gnum n) r s h = (cc, cc)
one_value (gcons a c) (gcons b d) r s h =
    let e : numbers_of a ++ (numbers_of c ++ r) ≡ numbers_of b ++ (numbers_of d ++ s) = sym (append_assoc (numbers_of a) (numbers_of c) (r)) ∙ (cc) ∙ append_assoc (numbers_of b) (numbers_of d) (s) in
    let p = one_value a b (numbers_of c ++ r) (numbers_of d ++ s) e in
    let q = one_value c d r s p.1 in
    (λ i. gcons (p.0 i) (q.0 i), q.1)
one_value gnil (gnum n) r s h = cc
one_value gnil (gcons b d) r s h = cc
one_value (gnum m) gnil r s h = cc
one_value (gnum m) (gcons b d) r s h = cc
one_value (gcons a c) gnil r s h = cc
one_value (gcons a c) (gnum n) r s h = cc

pub one_coded : (a b : Gv) → numbers_of a ≡ numbers_of b → a ≡ b
one_coded a b h = (one_value a b [] [] (ap (λ ns. ns ++ []) h)).0

module _ {K : Type 0} (c : Coded K) where
  -- the order of two keys: that of the lists of numbers that they are stored as, compared number by number
  abbrev pub order : K → K → Ordering
  order = on (λ k. numbers_of (c.code k)) (slice_cmp nat_cmp)

  pub order_total : IsTotalOrder order
  order_total = on_total (λ k. numbers_of (c.code k)) nat_list_cmp_total

  pub order_tells : IsAntisymmetric order
  order_tells x y e = c.inj x y (one_coded _ _ (slice_cmp-IsAntisymmetric nat_cmp-IsAntisymmetric _ _ e))

  pub tie_is : (x y : K) → eq_by_cmp order x y ≡ true → x ≡ y
  tie_is x y h = order_tells x y ((Equal-is (order x y)).0 h)

  found : (xs : List K) (q : K) → ordered.contains (ordered.from_list {R = order} xs) q ≡ list_any (eq_by_cmp order q) xs
  found = ordered.contains-from_list order_total

  found_within : (xs ys : List K) → Within xs ys → (q : K) → list_any (eq_by_cmp order q) xs ≡ true → list_any (eq_by_cmp order q) ys ≡ true
  found_within xs ys f q h = list_any-from_Contains (eq_by_cmp_equiv order_total) q ys (f q (Contains-from_any tie_is q xs h))

  within_found : (xs ys : List K) → ((q : K) → list_any (eq_by_cmp order q) xs ≡ list_any (eq_by_cmp order q) ys) → Within xs ys
  within_found xs ys e k h = Contains-from_any tie_is k ys (sym (e k) ∙ list_any-from_Contains (eq_by_cmp_equiv order_total) k xs h)

  pub stored_once : (xs ys : List K) → SameKeys xs ys → ordered.from_list {R = order} xs ≡ ordered.from_list ys
  stored_once xs ys f = ordered.same_set order_total order_tells _ _ (λ q. found xs q ∙ both_ways _ _ (found_within xs ys f.0 q) (found_within ys xs f.1 q) ∙ sym (found ys q))

  pub stored_apart : (xs ys : List K) → ordered.from_list {R = order} xs ≡ ordered.from_list ys → SameKeys xs ys
  stored_apart xs ys e =
      let same : (q : K) → list_any (eq_by_cmp order q) xs ≡ list_any (eq_by_cmp order q) ys = λ q. sym (found xs q) ∙ ap (λ s. ordered.contains s q) e ∙ found ys q in
      (within_found xs ys same, within_found ys xs (λ q. sym (same q)))

  -- a set with its keys in this order, each of them once
  abbrev pub in_order : KeySet K → FinSet order
  in_order s = /_rec (Coded-set (ordered.code c)) (λ xs. ordered.from_list xs) stored_once s

  pub in_order_tells : (s t : KeySet K) → in_order s ≡ in_order t → s ≡ t
  unfolding /_rec
  in_order_tells = /_elim_prop₂ (λ s t. in_order s ≡ in_order t → s ≡ t) (λ s t. →_prop (/_set s t)) (λ xs ys e. eq/ xs ys (stored_apart xs ys e))

  -- how a set is stored: as its keys in this order
  abbrev pub code : Coded (KeySet K)
  code = coded_via (ordered.code c) in_order in_order_tells

  -- lists that make one set have the same keys
  pub same_keys : (xs ys : List K) → from_list xs ≡ from_list ys → SameKeys xs ys
  unfolding /_rec
  same_keys xs ys e = stored_apart xs ys (ap in_order e)

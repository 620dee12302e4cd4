-- Sums over views after one of them changed, was cut in two, or took in another; and how often a list has a number.
use Rattle.std.proofs.Common.{◌≡◌, ◌≢◌, ℕ, zero, suc, ◌+◌, ◌<◌, ◌≤◌, cond, ◌==◌, List, [], ◌∷◌, ◌++◌, set, sym, refl, ap, ◌∙◌, eq-eqb, ne_eqb, arith}
use Rattle.std.proofs.lemmas.List.Sums.{sum_by-cons, sum_by-append, sum_by_push}
use mathlib.Core.Option.{some, some-injective, some-ne-none}
use lib.ListN.{get_elem?}
use Rattle.shared.specs.Totals.{total, times}

module _ {V : Type 0} where
  pub total-set : (f : V → ℕ) (views : List V) (id : ℕ) (v w : V) → get_elem? views id ≡ some v → total f (set views id w) + f v ≡ total f views + f w
  total-set f [] id v w at = absurd (some-ne-none v (sym at))
  total-set f (u ∷ us) zero v w at = omega (arith, ap f (some-injective u v at), sum_by-cons f u us, sum_by-cons f w us)
  total-set f (u ∷ us) (suc i) v w at = omega (arith, sum_by-cons f u us, sum_by-cons f u (set us i w), total-set f us i v w at)

  -- f of the view grew by c
  pub total-add : (f : V → ℕ) (views : List V) (id : ℕ) (v w : V) (c : ℕ) → get_elem? views id ≡ some v → f w ≡ f v + c → total f (set views id w) ≡ total f views + c
  total-add f views id v w c at e = omega (arith, total-set f views id v w at)

  pub total-split : (f : V → ℕ) (views : List V) (id : ℕ) (v l r : V) → get_elem? views id ≡ some v → f l + f r ≡ f v → total f (set views id l ++ r ∷ []) ≡ total f views
  total-split f views id v l r at e = omega (arith, total-set f views id v l at, sum_by_push f (set views id l) r)

  pub total-join : (f : V → ℕ) (views : List V) (id other : ℕ) (v w both spent : V) → get_elem? views id ≡ some v → get_elem? (set views id both) other ≡ some w → f both ≡ f v + f w → f spent ≡ 0 → total f (set (set views id both) other spent) ≡ total f views
  total-join f views id other v w both spent at there e none = omega (arith, total-set f views id v both at, total-set f (set views id both) other w spent there)

  pub total-has : (f : V → ℕ) (views : List V) (id : ℕ) (v : V) → get_elem? views id ≡ some v → f v ≤ total f views
  total-has f [] id v at = absurd (some-ne-none v (sym at))
  total-has f (u ∷ us) zero v at = omega (arith, ap f (some-injective u v at), sum_by-cons f u us)
  total-has f (u ∷ us) (suc i) v at = omega (arith, sum_by-cons f u us, total-has f us i v at)

  pub total-le : (f g : V → ℕ) (views : List V) → ((j : ℕ) (u : V) → get_elem? views j ≡ some u → f u ≤ g u) → total f views ≤ total g views
  total-le f g [] le = omega arith
  total-le f g (u ∷ us) le = omega (arith, sum_by-cons f u us, sum_by-cons g u us, le 0 u refl, total-le f g us (λ j. le (suc j)))

  pub total-less : (f g : V → ℕ) (views : List V) (id : ℕ) (v : V) → ((j : ℕ) (u : V) → get_elem? views j ≡ some u → f u ≤ g u) → get_elem? views id ≡ some v → f v < g v → total f views < total g views
  total-less f g [] id v le at less = absurd (some-ne-none v (sym at))
  total-less f g (u ∷ us) zero v le at less = let e = some-injective u v at in omega (arith, ap f e, ap g e, sum_by-cons f u us, sum_by-cons g u us, total-le f g us (λ j. le (suc j)))
  total-less f g (u ∷ us) (suc i) v le at less = omega (arith, sum_by-cons f u us, sum_by-cons g u us, le 0 u refl, total-less f g us i v (λ j. le (suc j)) at less)

  none-has : (f g : V → ℕ) (views : List V) → total g views ≡ 0 → ((j : ℕ) (u : V) → get_elem? views j ≡ some u → g u ≡ 0 → f u ≡ 0) → total f views ≡ 0
  none-has f g [] e none = refl
  none-has f g (u ∷ us) e none = let g0 : g u ≡ 0 = omega (arith, sum_by-cons g u us) in let gs : total g us ≡ 0 = omega (arith, sum_by-cons g u us) in
      omega (arith, sum_by-cons f u us, none 0 u refl g0, none-has f g us gs (λ j. none (suc j)))

  -- where one view has all of g, it has all of each f that is 0 wherever g is
  pub total-alone : (f g : V → ℕ) (views : List V) (id : ℕ) (v : V) → get_elem? views id ≡ some v → total g views ≡ g v → ((j : ℕ) (u : V) → get_elem? views j ≡ some u → g u ≡ 0 → f u ≡ 0) → total f views ≡ f v
  total-alone f g [] id v at e none = absurd (some-ne-none v (sym at))
  total-alone f g (u ∷ us) zero v at e none = let same = some-injective u v at in let gs : total g us ≡ 0 = omega (arith, ap g same, sum_by-cons g u us) in
      omega (arith, ap f same, sum_by-cons f u us, none-has f g us gs (λ j. none (suc j)))
  total-alone f g (u ∷ us) (suc i) v at e none = let has = total-has g us i v at in let g0 : g u ≡ 0 = omega (arith, sum_by-cons g u us) in let gs : total g us ≡ g v = omega (arith, sum_by-cons g u us) in
      omega (arith, sum_by-cons f u us, none 0 u refl g0, total-alone f g us i v at gs (λ j. none (suc j)))

pub times-append : (x : ℕ) (xs ys : List ℕ) → times x (xs ++ ys) ≡ times x xs + times x ys
times-append x xs ys = sum_by-append (λ (y : ℕ). cond (y == x) 1 0) xs ys

pub times-push-hit : (x n : ℕ) (xs : List ℕ) → n ≡ x → times x (xs ++ n ∷ []) ≡ times x xs + 1
times-push-hit x n xs e = sum_by_push (λ (y : ℕ). cond (y == x) 1 0) xs n ∙ ap (λ b. times x xs + cond b 1 0) (eq-eqb n x e)

pub times-push-miss : (x n : ℕ) (xs : List ℕ) → n ≢ x → times x (xs ++ n ∷ []) ≡ times x xs + 0
times-push-miss x n xs e = sum_by_push (λ (y : ℕ). cond (y == x) 1 0) xs n ∙ ap (λ b. times x xs + cond b 1 0) (ne_eqb n x e)

-- a view that was changed is there
pub there : {V : Type 0} (views : List V) (id : ℕ) (v w : V) → get_elem? views id ≡ some v → get_elem? (set views id w) id ≡ some w
there [] id v w at = absurd (some-ne-none v (sym at))
there (u ∷ us) zero v w at = refl
there (u ∷ us) (suc i) v w at = there us i v w at

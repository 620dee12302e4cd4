-- What holds of a system with ordinals because it holds of the system.
use Rattle.std.specs.Prelude.{◌≡◌, ℕ, zero, suc, ◌+◌, ◌<◌, List, [], ◌∷◌, length, Option, AllPairs, Contains}
use Rattle.std.proofs.Common.{Less, ap, arith, get_or, refl, sym, subst, ◌∙◌}
use Rattle.std.specs.Cmp.{nat_cmp_is}
use Rattle.search_ordinals.specs.OrdinalOrder.{ordinal_cmp}
use Rattle.search_ordinals.specs.Ordinals.{led_to, ordinal_graph, ordinals_from}
use Rattle.search_ordinals.specs.Told.{IsNth}
use Rattle.search_ordinals.specs.declared.ordinal.Ordinal.{Ordinal}
use Rattle.summary.specs.Graph.{Graph}

module _ {A : Type 0} where
  -- what a list contains stands somewhere in it
  pub nth_from_contains : (xs : List A) (x : A) → Contains xs x → (n : ℕ) × IsNth xs n x
  nth_from_contains xs x found = (found.0, at xs found.0 found.1 found.2)
    where
      at : (ys : List A) (k : ℕ) → k < length ys → get_or ys k x ≡ x → IsNth ys k x
      at [] k below e = absurd (omega (arith, below))
      at (y ∷ ys) zero below e = e
      at (y ∷ ys) (suc k) below e = at ys k (omega (arith, below)) e

  pub contains_from_nth : (xs : List A) (n : ℕ) (x : A) → IsNth xs n x → Contains xs x
  contains_from_nth [] n x h = absurd h
  contains_from_nth (y ∷ ys) zero x h = (0, omega arith, h)
  contains_from_nth (y ∷ ys) (suc n) x h = let found = contains_from_nth ys n x h in (suc found.0, omega (arith, found.1), found.2)

  pub nth_below : (xs : List A) (n : ℕ) (x : A) → IsNth xs n x → n < length xs
  nth_below [] n x h = absurd h
  nth_below (y ∷ ys) zero x h = omega arith
  nth_below (y ∷ ys) (suc n) x h = let below = nth_below ys n x h in omega (arith, below)

module _ {L B : Type 0} (branch : L → Option B) where
  -- the ordinal of a label
  pub ordinal_there : (n : ℕ) (labels : List L) (k : ℕ) (label : L) → IsNth labels k label → IsNth (ordinals_from branch n labels) k (record { nth = n + k; branch = branch label })
  ordinal_there n [] k label h = absurd h
  ordinal_there n (l ∷ ls) zero label h = λ i. record { nth = (let e : n ≡ n + 0 = omega arith in e) i; branch = branch (h i) }
  ordinal_there n (l ∷ ls) (suc k) label h =
      subst (λ (m : ℕ). IsNth (ordinals_from branch (suc n) ls) k (record { nth = m; branch = branch label })) (let e : suc n + k ≡ n + suc k = omega arith in e) (ordinal_there (suc n) ls k label h)

  -- the label of an ordinal
  pub label_there : (n : ℕ) (labels : List L) (k : ℕ) (o : Ordinal B) → IsNth (ordinals_from branch n labels) k o → (label : L) × IsNth labels k label × (o ≡ record { nth = n + k; branch = branch label })
  label_there n [] k o h = absurd h
  label_there n (l ∷ ls) zero o h = (l, refl, sym h ∙ (λ i. record { nth = (let e : n ≡ n + 0 = omega arith in e) i; branch = branch l }))
  label_there n (l ∷ ls) (suc k) o h =
      let found = label_there (suc n) ls k o h in
      (found.0, found.1, found.2 ∙ (λ i. record { nth = (let e : suc n + k ≡ n + suc k = omega arith in e) i; branch = branch found.0 }))

  -- each ordinal has its label where its number says
  pub label_of : (labels : List L) (o : Ordinal B) → Contains (ordinals_from branch 0 labels) o → (label : L) × IsNth labels o.nth label × (o.branch ≡ branch label)
  label_of labels o found =
      let at = nth_from_contains (ordinals_from branch 0 labels) o found in
      let there = label_there 0 labels at.0 o at.1 in
      let same : at.0 ≡ o.nth = (let e : 0 + at.0 ≡ at.0 = omega arith in sym e) ∙ sym (ap (λ (p : Ordinal B). p.nth) there.2) in
      (there.0, subst (λ (k : ℕ). IsNth labels k there.0) same there.1, ap (λ (p : Ordinal B). p.branch) there.2)

  pub ordinal_of : (labels : List L) (o : Ordinal B) (label : L) → IsNth labels o.nth label → o.branch ≡ branch label → Contains (ordinals_from branch 0 labels) o
  ordinal_of labels o label h same =
      contains_from_nth (ordinals_from branch 0 labels) o.nth o
      (subst (IsNth (ordinals_from branch 0 labels) o.nth) (λ i. record { nth = (let e : 0 + o.nth ≡ o.nth = omega arith in e) i; branch = sym same i }) (ordinal_there 0 labels o.nth label h))

  number_at : (n : ℕ) (labels : List L) (i : ℕ) (d : Ordinal B) → i < length (ordinals_from branch n labels) → (get_or (ordinals_from branch n labels) i d).nth ≡ n + i
  number_at n [] i d below = absurd (omega (arith, below))
  number_at n (l ∷ ls) zero d below = omega arith
  number_at n (l ∷ ls) (suc i) d below = number_at (suc n) ls i d (omega (arith, below)) ∙ (let e : suc n + i ≡ n + suc i = omega arith in e)

  -- ordinals ascend
  pub ordinals_ascend : (labels : List L) → AllPairs (λ o p. ordinal_cmp o p ≡ Less) (ordinals_from branch 0 labels)
  ordinals_ascend labels i j d less below =
      let first = number_at 0 labels i d (omega (arith, less, below)) in
      let second = number_at 0 labels j d below in
      sym (nat_cmp_is (get_or (ordinals_from branch 0 labels) i d).nth (get_or (ordinals_from branch 0 labels) j d).nth Less (omega (arith, first, second, less)))

module _ {C L B : Type 0} (branch : C → L → Option B) (g : Graph C L) where
  pub led_there : (state : C) (labels : List L) (n : ℕ) (label : L) → IsNth labels n label → led_to g state labels n ≡ g.after state label
  led_there state [] n label h = absurd h
  led_there state (l ∷ ls) zero label h = ap (g.after state) h
  led_there state (l ∷ ls) (suc n) label h = led_there state ls n label h

  -- what holds behind each enabled label holds behind each ordinal
  pub holds_behind : (F : C → Type 0) (state : C) (o : Ordinal B) → ((label : L) → Contains (g.enabled state) label → F (g.after state label))
      → Contains ((ordinal_graph branch g).enabled state) o → F ((ordinal_graph branch g).after state o)
  holds_behind F state o after found =
      let there = label_of (branch state) (g.enabled state) o found in
      subst F (sym (led_there state (g.enabled state) o.nth there.0 there.1)) (after there.0 (contains_from_nth (g.enabled state) o.nth there.0 there.1))

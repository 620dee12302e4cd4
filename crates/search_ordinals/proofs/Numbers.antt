-- What loops make of labels: their ordinals, branches and successors.
use Rattle.std.proofs.Common.{◌≡◌, ℕ, zero, suc, ◌+◌, ◌<◌, List, [], ◌∷◌, ◌++◌, length, get_or, map, Option, refl, sym, ap, subst, ◌∙◌, arith}
use Rattle.std.specs.Prelude.{Contains, Err, IfOk, Ok, Result}
use Rattle.search_ordinals.specs.OrdinalLaws.{contains_from_nth, led_there, nth_from_contains}
use Rattle.search_ordinals.specs.Ordinals.{ordinal_graph, ordinals_from, shown_at, with_branch}
use Rattle.search_ordinals.specs.Told.{IsNth}
use Rattle.search_ordinals.specs.internal.Numbered.{numbered}
use Rattle.search_ordinals.specs.declared.ordinal.Ordinal.{Ordinal}
use Rattle.summary.specs.Graph.{Graph, with_after}

-- what holds of an answer
pub if-ok : {A E : Type 0} (r : Result A E) (P Q : A → Type 0) → IfOk r P → ((a : A) → P a → Q a) → IfOk r Q
if-ok (Ok a) P Q holds so = so a holds
if-ok (Err e) P Q holds so = tt

-- an item that is read at an index
pub nth-read : {A : Type 0} (xs : List A) (n : ℕ) (x : A) → n < length xs → x ≡ get_or xs n x → IsNth xs n x
nth-read [] n x below e = absurd (omega (arith, below))
nth-read (y ∷ ys) zero x below e = sym e
nth-read (y ∷ ys) (suc n) x below e = nth-read ys n x (omega (arith, below)) e

-- the item of this turn of a loop is in the list
pub found-at : {A : Type 0} (xs : List A) (n : ℕ) (x : A) → n < length xs → x ≡ get_or xs n x → Contains xs x
found-at xs n x below e = (n, below, sym e)

pub map-itself : {A : Type 0} (xs : List A) → map (λ x. x) xs ≡ xs
map-itself [] = refl
map-itself (x ∷ xs) = ap (λ ys. x ∷ ys) (map-itself xs)

module _ {L B : Type 0} (branch : L → Option B) where
  pub as-many : (n : ℕ) (labels : List L) → length (ordinals_from branch n labels) ≡ length labels
  as-many n [] = refl
  as-many n (l ∷ ls) = ap suc (as-many (suc n) ls)

  -- one ordinal more
  pub one-ordinal-more : (n : ℕ) (labels : List L) (label : L) (o : Ordinal B) → o.nth ≡ n + length labels → o.branch ≡ branch label
      → ordinals_from branch n labels ++ o ∷ [] ≡ ordinals_from branch n (labels ++ label ∷ [])
  one-ordinal-more n [] label o same takes = λ i. record { nth = (same ∙ (let e : n + 0 ≡ n = omega arith in e)) i; branch = takes i } ∷ []
  one-ordinal-more n (l ∷ ls) label o same takes =
      ap (λ os. record { nth = n; branch = branch l } ∷ os) (one-ordinal-more (suc n) ls label o (same ∙ (let e : n + suc (length ls) ≡ suc n + length ls = omega arith in e)) takes)

  pub next-ordinal : (labels : List L) (label : L) (nth : ℕ) (taken : Option B) (ordinals : List (Ordinal B)) → ordinals ≡ ordinals_from branch 0 labels → nth ≡ length ordinals → taken ≡ branch label
      → ordinals ++ record { nth = nth; branch = taken } ∷ [] ≡ ordinals_from branch 0 (labels ++ label ∷ [])
  next-ordinal labels label nth taken ordinals made same takes =
      ap (λ os. os ++ record { nth = nth; branch = taken } ∷ []) made
      ∙ one-ordinal-more 0 labels label (record { nth = nth; branch = taken })
      (same ∙ ap length made ∙ as-many 0 labels ∙ (let e : length labels ≡ 0 + length labels = omega arith in e)) takes

module _ {C L B : Type 0} (branch : C → L → Option B) (g : Graph C L) (state : C) where
  -- ---- branches of successors

  pub pair-found : (labels : List L) (label : L) (after : C) → Contains (with_after g state labels) (label, after) → Contains labels label
  pair-found labels label after found =
      let at = nth_from_contains (with_after g state labels) (label, after) found in contains_from_nth labels at.0 label (there labels at.0 at.1)
    where
      there : (ls : List L) (n : ℕ) → IsNth (with_after g state ls) n (label, after) → IsNth ls n label
      there [] n h = absurd h
      there (l ∷ ls) zero h = ap (λ (p : L × C). p.0) h
      there (l ∷ ls) (suc n) h = there ls n h

  abbrev pub branch-pair : L × C → Option B × C
  branch-pair pair = (branch state pair.0, pair.1)

  pub branches-there : (labels : List L) → map branch-pair (with_after g state labels) ≡ with_branch branch g state labels
  branches-there [] = refl
  branches-there (l ∷ ls) = ap (λ ps. (branch state l, g.after state l) ∷ ps) (branches-there ls)

-- ---- numbered successors

module _ {C B : Type 0} where
  as-many-numbered : (n : ℕ) (pairs : List (Option B × C)) → length (numbered n pairs) ≡ length pairs
  as-many-numbered n [] = refl
  as-many-numbered n (pair ∷ pairs) = ap suc (as-many-numbered (suc n) pairs)

  one-number-more : (n : ℕ) (pairs : List (Option B × C)) (nth : ℕ) (taken : Option B) (after : C) → nth ≡ n + length pairs
      → numbered n pairs ++ (record { nth = nth; branch = taken }, after) ∷ [] ≡ numbered n (pairs ++ (taken, after) ∷ [])
  one-number-more n [] nth taken after same = λ i. (record { nth = (same ∙ (let e : n + 0 ≡ n = omega arith in e)) i; branch = taken }, after) ∷ []
  one-number-more n (pair ∷ pairs) nth taken after same =
      ap (λ ps. (record { nth = n; branch = pair.0 }, pair.1) ∷ ps) (one-number-more (suc n) pairs nth taken after (same ∙ (let e : n + suc (length pairs) ≡ suc n + length pairs = omega arith in e)))

  pub next-number : (pairs : List (Option B × C)) (made : List (Ordinal B × C)) (nth : ℕ) (taken : Option B) (after : C) → made ≡ numbered 0 pairs → nth ≡ length made
      → made ++ (record { nth = nth; branch = taken }, after) ∷ [] ≡ numbered 0 (pairs ++ (taken, after) ∷ [])
  next-number pairs made nth taken after is same =
      ap (λ ps. ps ++ (record { nth = nth; branch = taken }, after) ∷ []) is
      ∙ one-number-more 0 pairs nth taken after (same ∙ ap length is ∙ as-many-numbered 0 pairs ∙ (let e : length pairs ≡ 0 + length pairs = omega arith in e))

module _ {C L B : Type 0} (branch : C → L → Option B) (g : Graph C L) (state : C) where
  pub numbered-there : (labels : List L) → labels ≡ g.enabled state → numbered 0 (with_branch branch g state labels) ≡ with_after (ordinal_graph branch g) state ((ordinal_graph branch g).enabled state)
  numbered-there labels all =
      ap (λ ls. numbered 0 (with_branch branch g state ls)) all
      ∙ from-there 0 (g.enabled state) (λ k l h. subst (λ (m : ℕ). IsNth (g.enabled state) m l) (let e : k ≡ 0 + k = omega arith in e) h)
    where
      from-there : (n : ℕ) (ls : List L) → ((k : ℕ) (l : L) → IsNth ls k l → IsNth (g.enabled state) (n + k) l)
          → numbered n (with_branch branch g state ls) ≡ with_after (ordinal_graph branch g) state (ordinals_from (branch state) n ls)
      from-there n [] there = refl
      from-there n (l ∷ ls) there =
          let here : IsNth (g.enabled state) n l = subst (λ (m : ℕ). IsNth (g.enabled state) m l) (let e : n + 0 ≡ n = omega arith in e) (there 0 l refl) in
          let rest = from-there (suc n) ls (λ k m h. subst (λ (p : ℕ). IsNth (g.enabled state) p m) (let e : n + suc k ≡ suc n + k = omega arith in e) (there (suc k) m h)) in
          λ i. (record { nth = n; branch = branch state l }, sym (led_there branch g state (g.enabled state) n l here) i) ∷ rest i

-- ---- what steps show

module _ {L B E : Type 0} (branch : L → Option B) (event : L → Option E) where
  pub shown-there : (labels : List L) (n : ℕ) (label : L) → IsNth labels n label → shown_at event labels n ≡ event label
  shown-there [] n label h = absurd h
  shown-there (l ∷ ls) zero label h = ap event h
  shown-there (l ∷ ls) (suc n) label h = shown-there ls n label h

  pub numbered-shown : (labels : List L) → numbered 0 (map (λ l. (branch l, event l)) labels) ≡ map (λ o. (o, shown_at event labels o.nth)) (ordinals_from branch 0 labels)
  numbered-shown labels = from-there 0 labels (λ k l h. subst (λ (m : ℕ). IsNth labels m l) (let e : k ≡ 0 + k = omega arith in e) h)
    where
      from-there : (n : ℕ) (ls : List L) → ((k : ℕ) (l : L) → IsNth ls k l → IsNth labels (n + k) l)
          → numbered n (map (λ l. (branch l, event l)) ls) ≡ map (λ o. (o, shown_at event labels o.nth)) (ordinals_from branch n ls)
      from-there n [] there = refl
      from-there n (l ∷ ls) there =
          let here : IsNth labels n l = subst (λ (m : ℕ). IsNth labels m l) (let e : n + 0 ≡ n = omega arith in e) (there 0 l refl) in
          let rest = from-there (suc n) ls (λ k m h. subst (λ (p : ℕ). IsNth labels p m) (let e : n + suc k ≡ suc n + k = omega arith in e) (there (suc k) m h)) in
          λ i. (record { nth = n; branch = branch l }, sym (shown-there labels n l here) i) ∷ rest i

-- What is left out where steps are told by numbers may be left out where they are told by ordinals.
use Rattle.std.proofs.Common.{◌≡◌, ℕ, suc, ◌+◌, List, [], ◌∷◌, map, Less, refl, sym, ap, subst, ◌∙◌, arith}
use Rattle.std.specs.Prelude.{Contains, Option, None, Some}
use Rattle.std.specs.Cmp.{nat_cmp_is}
use Rattle.std.specs.List.{All, AllZip}
use Rattle.std.proofs.lemmas.List.Elements.{All-cons, All-nil}
use Rattle.search_layer.specs.Late.{IsLate, IsSpared}
use Rattle.search_ordinals.specs.internal.Numbered.{numbered}
use Rattle.search_ordinals.specs.OrdinalLaws.{led_there, nth_from_contains, ordinal_of}
use Rattle.search_ordinals.specs.OrdinalOrder.{ordinal_cmp}
use Rattle.search_ordinals.specs.Ordinals.{ordinal_graph, ordinals_from, with_branch}
use Rattle.search_ordinals.specs.Sparing.{IsEarly, IsSparedAt}
use Rattle.search_ordinals.specs.Told.{IsNth}
use Rattle.search_ordinals.specs.declared.ordinal.Ordinal.{Ordinal}
use Rattle.summary.specs.Graph.{Graph}

-- a branch, and the state, which isn't left out
abbrev pub all-given : {B C : Type 0} → Option B × C → Option B × Option C
all-given pair = (pair.0, Some pair.1)

module _ {C L B : Type 0} (branch : C → L → Option B) (g : Graph C L) (before : C) (nth : ℕ) (state : C) where
  pub nothing-left-out : (labels : List L) → AllZip (IsSparedAt branch g before nth state) labels (map all-given (with_branch branch g state labels))
  nothing-left-out [] = tt
  nothing-left-out (label ∷ labels) = ((refl, refl), nothing-left-out labels)

module _ {C L B : Type 0} (branch : C → L → Option B) (g : Graph C L) (before : C) (last : Ordinal B) (state : C) where
  abbrev h : Graph C (Ordinal B)
  h = ordinal_graph branch g

  is-late : (after : C) → IsEarly g before last.nth after → IsLate h ordinal_cmp before last after
  is-late after early =
      let between : C = g.after before early.first in
      let o : Ordinal B = record { nth = early.number; branch = branch before early.first } in
      let there : between ≡ h.after before o = sym (led_there branch g before (g.enabled before) early.number early.first early.at) in
      let found = nth_from_contains (g.enabled between) early.second early.behind in
      let p : Ordinal B = record { nth = found.0; branch = branch between early.second } in
      record {
        first = o;
        second = p;
        enabled = ordinal_of (branch before) (g.enabled before) o early.first early.at refl;
        earlier = sym (nat_cmp_is early.number last.nth Less (let less = early.earlier in omega arith));
        behind = subst (λ (c : C). Contains (h.enabled c) p) there (ordinal_of (branch between) (g.enabled between) p early.second found.1 refl);
        leads = ap (λ (c : C). h.after c p) (sym there) ∙ led_there branch g between (g.enabled between) found.0 early.second found.1 ∙ early.leads;
      }

  abbrev IsTold : List (Ordinal B) → List (Ordinal B × Option C) → Type 0
  IsTold ordinals found = (map (λ p. p.0) found ≡ ordinals) × All (IsSpared h ordinal_cmp before last state) found

  one-more : (n : ℕ) (label : L) (pair : Option B × Option C) (ordinals : List (Ordinal B)) (found : List (Ordinal B × Option C)) → IsNth (g.enabled state) n label
      → IsSparedAt branch g before last.nth state label pair → IsTold ordinals found
      → IsTold (record { nth = n; branch = branch state label } ∷ ordinals) ((record { nth = n; branch = pair.0 }, pair.1) ∷ found)
  one-more n label (taken, Some after) ordinals found here is rest = (
    λ i. record { nth = n; branch = is.0 i } ∷ rest.0 i,
    All-cons (IsSpared h ordinal_cmp before last state) (record { nth = n; branch = taken }, Some after) found
        (is.1 ∙ sym (led_there branch g state (g.enabled state) n label here)) rest.1,
  )
  one-more n label (taken, None) ordinals found here is rest = (
    λ i. record { nth = n; branch = is.0 i } ∷ rest.0 i,
    All-cons (IsSpared h ordinal_cmp before last state) (record { nth = n; branch = taken }, None) found
        (subst (λ (c : C). IsLate h ordinal_cmp before last c) (sym (led_there branch g state (g.enabled state) n label here)) (is-late (g.after state label) is.1)) rest.1,
  )

  from-there : (n : ℕ) (labels : List L) (found : List (Option B × Option C)) → ((k : ℕ) (l : L) → IsNth labels k l → IsNth (g.enabled state) (n + k) l)
      → AllZip (IsSparedAt branch g before last.nth state) labels found → IsTold (ordinals_from (branch state) n labels) (numbered n found)
  from-there n [] [] there is = (refl, All-nil (IsSpared h ordinal_cmp before last state))
  from-there n [] (pair ∷ found) there is = absurd is
  from-there n (label ∷ labels) [] there is = absurd is
  from-there n (label ∷ labels) (pair ∷ found) there is =
      one-more n label pair (ordinals_from (branch state) (suc n) labels) (numbered (suc n) found)
      (subst (λ (m : ℕ). IsNth (g.enabled state) m label) (let e : n + 0 ≡ n = omega arith in e) (there 0 label refl)) is.0
      (from-there (suc n) labels found (λ k l i. subst (λ (m : ℕ). IsNth (g.enabled state) m l) (let e : n + suc k ≡ suc n + k = omega arith in e) (there (suc k) l i)) is.1)

  -- what is numbered has the ordinals of the state, and leaves out late states alone
  pub numbered-spared : (found : List (Option B × Option C)) → AllZip (IsSparedAt branch g before last.nth state) (g.enabled state) found
      → IsTold (h.enabled state) (numbered 0 found)
  numbered-spared found is = from-there 0 (g.enabled state) found (λ k l i. subst (λ (m : ℕ). IsNth (g.enabled state) m l) (let e : k ≡ 0 + k = omega arith in e) i) is

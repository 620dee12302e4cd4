-- A candidate at one of the first positions is new when its turn comes, and one at another position is known.
use Rattle.std.proofs.Common.{◌≡◌, ◌≢◌, ℕ, suc, ◌+◌, ◌<◌, ◌≤◌, Bool, true, false, cond, List, [], ◌∷◌, ◌++◌, length, get_or, take, map, sym, refl, ap, subst, ◌∙◌, append_assoc, append-nil, arith}
use Rattle.std.specs.Cmp.{IsEquivalence}
use Rattle.std.specs.List.Sorted.{IsStrictlyIncreasing}
use Rattle.std.proofs.lemmas.List.Kept.{AllPairs-from_increasing}
use mathlib.Core.Logic.{dite}
use native.Mathlib.Decide.{dec_le, ℕ_discrete}
use Rattle.search_layer.proofs.AllWorked.{stands-behind}
use Rattle.search_layer.proofs.Drawing.{stands-at}
use Rattle.std.proofs.lemmas.List.{map-append, take_more}
use Rattle.std.proofs.lemmas.Option.{get_or_from_slice_get, slice_get_within}
use Rattle.std.proofs.lemmas.List.Elements.{All-from_get_or}
use Rattle.search_layer.proofs.Newly.{all-placed, newly-push}
use Rattle.search_layer.specs.internal.Search.{as_found, Found, state_of, newly}
use Rattle.std.specs.Prelude.{◌||◌, slice_get, Some, All}
use Rattle.std.specs.List.{list_any}
use Rattle.summary.specs.Sums.{Join, Observation}
use Rattle.shared.specs.Totals.{Stands}
use Rattle.search_layer.specs.declared.visited.Candidate.{Candidate}
use Rattle.search_layer.specs.internal.Work.{AreFirst}
use Rattle.search_layer.proofs.Known.{known-after}

either-known : (a b : Bool) → ((a ≡ false) → (b ≡ false) → ⊥) → (a || b) ≡ true
either-known true b h = refl
either-known false true h = refl
either-known false false h = absurd (h refl refl)

-- so many of the positions are behind us
pub record IsUpTo (firsts : List ℕ) (next at : ℕ) : Type 0 where
  pub next_within : next ≤ length firsts
  pub before : (k : ℕ) → k < next → get_or firsts k 0 < at
  pub behind : (k : ℕ) → next ≤ k → k < length firsts → at ≤ get_or firsts k 0

index-of : (xs : List ℕ) (x : ℕ) → Stands x xs → (k : ℕ) × (k < length xs) × (get_or xs k 0 ≡ x)
index-of [] x has = absurd (omega arith)
index-of (y ∷ xs) x has = dite (ℕ_discrete y x)
    (λ here. (0, omega arith, here))
    (λ other. let r = index-of xs x (stands-behind y x xs other has) in (suc r.0, (let l = r.1 in omega arith), r.2))

pub not-there : (firsts : List ℕ) (next at : ℕ) → IsStrictlyIncreasing firsts → IsUpTo firsts next at → (next < length firsts → get_or firsts next 0 ≢ at) → Stands at firsts → ⊥
not-there firsts next at up h other has =
    let r = index-of firsts at has in
    let l = r.1 in
    let e = r.2 in
    dite (dec_le (suc r.0) next) (λ low. let b = h.before r.0 low in omega arith)
    (λ high. dite (ℕ_discrete next r.0)
    (λ here. other (omega arith) (ap (λ k. get_or firsts k 0) here ∙ e))
    (λ more. let far : next < r.0 = omega arith in let p = AllPairs-from_increasing firsts up next r.0 0 far l in let b = h.behind next (omega arith) (omega arith) in omega arith))

pub up-first : (firsts : List ℕ) (next at : ℕ) → IsStrictlyIncreasing firsts → IsUpTo firsts next at → next < length firsts → get_or firsts next 0 ≡ at → IsUpTo firsts (next + 1) (at + 1)
up-first firsts next at up h low is = record {
  next_within = omega arith;
  before = λ k less. dite (ℕ_discrete next k)
      (λ here. let e : get_or firsts k 0 ≡ at = ap (λ n. get_or firsts n 0) (sym here) ∙ is in omega arith)
      (λ other. let b = h.before k (omega arith) in omega arith);
  behind = λ k more near. let p = AllPairs-from_increasing firsts up next k 0 (omega arith) near in omega arith;
}

pub up-other : (firsts : List ℕ) (next at : ℕ) → IsStrictlyIncreasing firsts → IsUpTo firsts next at → (next < length firsts → get_or firsts next 0 ≢ at) → IsUpTo firsts next (at + 1)
up-other firsts next at up h other = record {
  next_within = h.next_within;
  before = λ k less. let b = h.before k less in omega arith;
  behind = λ k more near. dite (ℕ_discrete (get_or firsts k 0) at)
      (λ here. absurd (not-there firsts next at up h other (subst (λ x. Stands x firsts) here (stands-at firsts k near))))
      (λ apart. let b = h.behind k more near in omega arith);
}

-- each position is that of a candidate
pub positions-within : {C L : Type 0} (eq : C → C → Bool) (known : List C) (cs : List (Candidate C L)) (firsts : List ℕ) → AreFirst eq known cs firsts → All (λ at. at < length cs) firsts
positions-within eq known cs firsts h = All-from_get_or (λ at. at < length cs) firsts 0 (λ k low.
    let m = (h.members (get_or firsts k 0)).0 (stands-at firsts k low) in slice_get_within cs (get_or firsts k 0) m.0 m.1)

module _ {C L : Type 0} (eq : C → C → Bool) (laws : IsEquivalence eq) where
  -- a state is known after candidates were placed, where it was before or is equal to one of theirs
  known-newly : (known : List C) (x : C) (front : List (Candidate C L))
      → list_any (eq x) (known ++ map state_of (newly eq known front)) ≡ (list_any (eq x) known || list_any (λ c. eq x c.state) front)
  known-newly known x front =
      let found : Found C L (Unit {0}) = as_found known [] 0 tt in
      let j : Join (Unit {0}) = record { none = tt; join = λ _ _. tt } in
      let r : Observation C L (Unit {0}) = record { at = λ _. tt; by = λ _ _. tt } in
      ap (λ (f : Found C L (Unit {0})). list_any (eq x) f.states) (sym (all-placed j r eq found front))
      ∙ known-after j r eq (λ x y z a b. laws.congr x y z a ∙ b) found x front

  module _ (known : List C) (cs : List (Candidate C L)) (firsts : List ℕ) (c : Candidate C L) (at : ℕ) (h : AreFirst eq known cs firsts) (there : slice_get cs at ≡ Some c) where
    -- the candidate at one of the positions is new when its turn comes
    pub first-is-new : Stands at firsts → list_any (eq c.state) (known ++ map state_of (newly eq known (take at cs))) ≡ false
    first-is-new has =
        let m = (h.members at).0 has in
        let same : m.0 ≡ c = cc (m.1, there) in
        let old : list_any (eq c.state) known ≡ false = ap (λ (d : Candidate C L). list_any (eq d.state) known) (sym same) ∙ m.2 in
        let earlier : list_any (λ d. eq c.state d.state) (take at cs) ≡ false = (λ i. list_any (λ (d : Candidate C L). eq (sym same i).state d.state) (take at cs)) ∙ m.3 in
        known-newly known c.state (take at cs) ∙ (λ i. old i || earlier i)

    -- a candidate elsewhere is known
    pub other-is-known : (Stands at firsts → ⊥) → list_any (eq c.state) (known ++ map state_of (newly eq known (take at cs))) ≡ true
    other-is-known other =
        known-newly known c.state (take at cs)
        ∙ either-known (list_any (eq c.state) known) (list_any (λ d. eq c.state d.state) (take at cs)) (λ a b. other ((h.members at).1 (c, there, a, b)))

  -- candidates and one more that is new
  pub with_new : (known : List C) (front : List (Candidate C L)) (c : Candidate C L) → list_any (eq c.state) (known ++ map state_of (newly eq known front)) ≡ false
      → newly eq known (front ++ c ∷ []) ≡ newly eq known front ++ c ∷ []
  with_new known front c new = newly-push eq known front c ∙ ap (λ b. newly eq known front ++ cond b [] (c ∷ [])) new

  -- candidates and one more that is known
  pub with_known : (known : List C) (front : List (Candidate C L)) (c : Candidate C L) → list_any (eq c.state) (known ++ map state_of (newly eq known front)) ≡ true
      → newly eq known (front ++ c ∷ []) ≡ newly eq known front
  with_known known front c old = newly-push eq known front c ∙ ap (λ b. newly eq known front ++ cond b [] (c ∷ [])) old ∙ append-nil (newly eq known front)

  module _ {X : Type 0} (f : Candidate C L → X) (known : List C) (cs : List (Candidate C L)) (c : Candidate C L) (at : ℕ) (there : slice_get cs at ≡ Some c) (old before : List X)
      (so_far : before ≡ old ++ map f (newly eq known (take at cs))) where
    one-more : take (at + 1) cs ≡ take at cs ++ c ∷ []
    one-more = take_more cs at c (slice_get_within cs at c there) ∙ ap (λ d. take at cs ++ d ∷ []) (get_or_from_slice_get cs at c c there)

    -- what is kept of a new candidate comes behind what was kept
    pub kept-new : (after : List X) → list_any (eq c.state) (known ++ map state_of (newly eq known (take at cs))) ≡ false
        → after ≡ before ++ f c ∷ [] → after ≡ old ++ map f (newly eq known (take (at + 1) cs))
    kept-new after new is =
        is ∙ ap (λ xs. xs ++ f c ∷ []) so_far ∙ append_assoc old (map f (newly eq known (take at cs))) (f c ∷ [])
        ∙ ap (λ xs. old ++ xs) (sym (map-append f (newly eq known (take at cs)) (c ∷ [])) ∙ ap (map f) (sym (with_new known (take at cs) c new) ∙ ap (newly eq known) (sym one-more)))

    -- nothing is kept of a known one
    pub kept-known : list_any (eq c.state) (known ++ map state_of (newly eq known (take at cs))) ≡ true → before ≡ old ++ map f (newly eq known (take (at + 1) cs))
    kept-known known_is = so_far ∙ ap (λ ds. old ++ map f ds) (sym (with_known known (take at cs) c known_is) ∙ ap (newly eq known) (sym one-more))

-- The labels of a run, one by one, by the ordinals that tell it.
use Rattle.std.proofs.Common.{◌≡◌, ℕ, zero, suc, ◌<◌, ◌≤◌, List, [], ◌∷◌, ◌++◌, length, get_or, drop, Option, refl, sym, ap, subst, ◌∙◌, arith, append_assoc, append-nil}
use Rattle.search_ordinals.proofs.Runs.{nth-one}
use Rattle.search_ordinals.specs.OrdinalLaws.{nth_below}
use Rattle.search_ordinals.specs.Told.{IsNth, IsTold}
use Rattle.search_ordinals.specs.declared.ordinal.Ordinal.{Ordinal}
use Rattle.summary.specs.Graph.{Graph}
use Rattle.summary.specs.Run.{Run, Start, Then, end_of, labels_of}

drop-at : {A : Type 0} (xs : List A) (i : ℕ) (x : A) → i < length xs → x ≡ get_or xs i x → drop i xs ≡ x ∷ drop (suc i) xs
drop-at [] i x below e = absurd (omega (arith, below))
drop-at (y ∷ ys) zero x below e = ap (λ z. z ∷ ys) (sym e)
drop-at (y ∷ ys) (suc i) x below e = drop-at ys i x (omega (arith, below)) e

drop-end : {A : Type 0} (xs : List A) (i : ℕ) → length xs ≤ i → drop i xs ≡ []
drop-end [] zero past = refl
drop-end [] (suc i) past = refl
drop-end (x ∷ xs) zero past = absurd (omega (arith, past))
drop-end (x ∷ xs) (suc i) past = drop-end xs i (omega (arith, past))

module _ {C L B : Type 0} (branch : C → L → Option B) (g : Graph C L) where
  -- each label stands where its ordinal says
  abbrev pub Follows : C → List L → List (Ordinal B) → Type 0
  Follows state [] [] = Unit {0}
  Follows state [] (o ∷ os) = ⊥
  Follows state (l ∷ ls) [] = ⊥
  Follows state (l ∷ ls) (o ∷ os) = IsNth (g.enabled state) o.nth l × Follows (g.after state l) ls os

  abbrev walk : C → List L → C
  walk state [] = state
  walk state (l ∷ ls) = walk (g.after state l) ls

  walk-more : (state : C) (ls : List L) (l : L) → walk state (ls ++ l ∷ []) ≡ g.after (walk state ls) l
  walk-more state [] l = refl
  walk-more state (m ∷ ls) l = walk-more (g.after state m) ls l

  walks : (run : Run L) → walk g.first (labels_of run) ≡ end_of g run
  walks Start = refl
  walks (Then run label) = walk-more g.first (labels_of run) label ∙ ap (λ c. g.after c label) (walks run)

  follows-more : (state : C) (ls : List L) (os : List (Ordinal B)) (l : L) (o : Ordinal B) → Follows state ls os → IsNth (g.enabled (walk state ls)) o.nth l → Follows state (ls ++ l ∷ []) (os ++ o ∷ [])
  follows-more state [] [] l o follow there = (there, tt)
  follows-more state [] (p ∷ os) l o follow there = absurd follow
  follows-more state (m ∷ ls) [] l o follow there = absurd follow
  follows-more state (m ∷ ls) (p ∷ os) l o follow there = (follow.0, follows-more (g.after state m) ls os l o follow.1 there)

  follows-run : (run : Run L) (told : Run (Ordinal B)) → IsTold branch g run told → Follows g.first (labels_of run) (labels_of told)
  follows-run Start Start is = tt
  follows-run Start (Then told o) is = absurd is
  follows-run (Then run label) Start is = absurd is
  follows-run (Then run label) (Then told o) is =
      follows-more g.first (labels_of run) (labels_of told) label o (follows-run run told is.0) (subst (λ (c : C). IsNth (g.enabled c) o.nth label) (sym (walks run)) is.1)

  -- some labels more, which follow these ordinals, make all
  abbrev pub IsOnTheWay : C → List L → List (Ordinal B) → List L → Type 0
  IsOnTheWay state labels ordinals all = (rest : List L) × Follows state rest ordinals × (labels ++ rest ≡ all)

  pub at-first : (state : C) (labels : List L) (run : Run L) (told : Run (Ordinal B)) (ordinals : List (Ordinal B)) → state ≡ g.first → labels ≡ [] → IsTold branch g run told → ordinals ≡ labels_of told
      → IsOnTheWay state labels ordinals (labels_of run)
  at-first state labels run told ordinals start none is same = (
    labels_of run,
    subst (λ (os : List (Ordinal B)). Follows state (labels_of run) os) (sym same) (subst (λ (c : C). Follows c (labels_of run) (labels_of told)) (sym start) (follows-run run told is)),
    ap (λ ls. ls ++ labels_of run) none,
  )

  -- the next label
  pub next-label : (state : C) (labels : List L) (ordinals : List (Ordinal B)) (i : ℕ) (o : Ordinal B) (all : List L) → i < length ordinals → o ≡ get_or ordinals i o
      → IsOnTheWay state labels (drop i ordinals) all → (l : L) × (rest : List L) × IsNth (g.enabled state) o.nth l × Follows (g.after state l) rest (drop (suc i) ordinals) × (labels ++ l ∷ rest ≡ all)
  next-label state labels ordinals i o all below e way =
      from-rest way.0 (subst (λ (os : List (Ordinal B)). Follows state way.0 os) (drop-at ordinals i o below e) way.1) way.2
    where
      from-rest : (rest : List L) → Follows state rest (o ∷ drop (suc i) ordinals) → labels ++ rest ≡ all
          → (l : L) × (rest : List L) × IsNth (g.enabled state) o.nth l × Follows (g.after state l) rest (drop (suc i) ordinals) × (labels ++ l ∷ rest ≡ all)
      from-rest [] follow same = absurd follow
      from-rest (l ∷ rest) follow same = (l, rest, follow.0, follow.1, same)

  pub in-range : (state : C) (labels : List L) (ordinals : List (Ordinal B)) (i : ℕ) (o : Ordinal B) (all : List L) → i < length ordinals → o ≡ get_or ordinals i o
      → IsOnTheWay state labels (drop i ordinals) all → o.nth < length (g.enabled state)
  in-range state labels ordinals i o all below e way =
      let next = next-label state labels ordinals i o all below e way in nth_below (g.enabled state) o.nth next.0 next.2

  pub step-on : (state : C) (labels : List L) (ordinals : List (Ordinal B)) (i : ℕ) (o : Ordinal B) (all : List L) → i < length ordinals → o ≡ get_or ordinals i o
      → (label : L) (after : C) (more : List L) → IsNth (g.enabled state) o.nth label → after ≡ g.after state label → more ≡ labels ++ label ∷ []
      → IsOnTheWay state labels (drop i ordinals) all → IsOnTheWay after more (drop (suc i) ordinals) all
  step-on state labels ordinals i o all below e label after more there led pushed way =
      let next = next-label state labels ordinals i o all below e way in
      let same : next.0 ≡ label = nth-one (g.enabled state) o.nth next.0 label next.2 there in (
        next.1,
        subst (λ (c : C). Follows c next.1 (drop (suc i) ordinals)) (ap (g.after state) same ∙ sym led) next.3,
        ap (λ ls. ls ++ next.1) pushed ∙ append_assoc labels (label ∷ []) next.1 ∙ ap (λ l. labels ++ l ∷ next.1) (sym same) ∙ next.4,
      )

  pub at-end : (state : C) (labels : List L) (ordinals : List (Ordinal B)) (i : ℕ) (all : List L) → length ordinals ≤ i → IsOnTheWay state labels (drop i ordinals) all → labels ≡ all
  at-end state labels ordinals i all past way =
      sym (append-nil labels) ∙ ap (λ rest. labels ++ rest) (sym (none way.0 (subst (λ (os : List (Ordinal B)). Follows state way.0 os) (drop-end ordinals i past) way.1))) ∙ way.2
    where
      none : (rest : List L) → Follows state rest [] → rest ≡ []
      none [] follow = refl
      none (l ∷ rest) follow = absurd follow

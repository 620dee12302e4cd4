-- Where longer runs end with nothing else that is kept, they end with no other marks, and the least runs stay the least.
use Rattle.std.proofs.Common.{◌≡◌, ℕ, zero, suc, ◌<◌, ◌≤◌, List, [], ◌∷◌, length, get_or, Some, refl, sym, ap, subst, ◌∙◌, arith, inl, inr}
use Rattle.std.specs.Prelude.{◌≢◌, ◌⊎◌, AllPairs, Contains}
use Rattle.std.specs.declared.cmp.Ordering.{Ordering}
use Rattle.std.proofs.lemmas.Bool.{cases_lt}
use Rattle.laws_bounds.specs.Seen.{CountsKept, IsKeptReached}
use Rattle.laws_bounds.specs.StandsFor.{StandsFor}
use Rattle.laws_live.proofs.Counting.{no-longer}
use Rattle.summary.specs.Exploration.{HasMark, IsBest}
use Rattle.summary.specs.Graph.{Graph}
use Rattle.summary.specs.Run.{NoLater, Run, end_of, steps_of}

-- ---- an element more

same-default : {A : Type 0} (xs : List A) (i : ℕ) (x d : A) → i < length xs → get_or xs i x ≡ get_or xs i d
same-default [] i x d below = absurd (omega arith)
same-default (y ∷ ys) zero x d below = refl
same-default (y ∷ ys) (suc i) x d below = same-default ys i x d (omega (arith, below))

module _ {A : Type 0} (x : A) (xs : List A) where
  apart-more : (Contains xs x → ⊥) → AllPairs (λ y z. y ≢ z) xs → AllPairs (λ y z. y ≢ z) (x ∷ xs)
  apart-more lacks pairs zero zero d before within = absurd (omega arith)
  apart-more lacks pairs zero (suc j) d before within = λ same. lacks (j, omega (arith, within), same-default xs j x d (omega (arith, within)) ∙ sym same)
  apart-more lacks pairs (suc i) zero d before within = absurd (omega arith)
  apart-more lacks pairs (suc i) (suc j) d before within = pairs i j d (omega (arith, before)) (omega (arith, within))

  each-of : (P : A → Type 0) → P x → ((y : A) → Contains xs y → P y) → (y : A) → Contains (x ∷ xs) y → P y
  each-of P first others y (zero, below, is) = subst P is first
  each-of P first others y (suc k, below, is) = others y (k, omega (arith, below), is)

-- ---- marks

module _ {C D L : Type 0} (g : Graph C L) (h : Graph D L) (kept : C → D) (stands : StandsFor g h kept) (n m : ℕ) (le : n ≤ m) where
  later : (d : D) → IsKeptReached g kept n d → IsKeptReached g kept m d
  later d is = record { run = is.run; is_run = is.is_run; short = let short = is.short in omega (arith, short, le); ends = is.ends }

  pub marked-later : (count mark : ℕ) → CountsKept g kept n count → CountsKept g kept m count → ((run : Run L) → HasMark g n mark run → ⊥) → (run : Run L) → HasMark g m mark run → ⊥
  marked-later count mark counts more none run has =
      let part = kept (end_of g run) in
      let marked : h.mark part ≡ Some mark = stands.mark (end_of g run) ∙ has.marked in
      let lacks : Contains counts.parts part → ⊥ = λ found.
      let is = counts.reached part found in
      none is.run (record { is_run = is.is_run; short = is.short; marked = sym (stands.mark (end_of g is.run)) ∙ ap h.mark is.ends ∙ marked }) in
      let reached : IsKeptReached g kept m part = record { run = run; is_run = has.is_run; short = has.short; ends = refl } in
      let fits : length (part ∷ counts.parts) ≤ length more.parts =
      no-longer (part ∷ counts.parts) more.parts (apart-more part counts.parts lacks counts.different)
      (each-of part counts.parts (Contains more.parts) (more.all part reached) (λ other found. more.all other (later other (counts.reached other found)))) in
      absurd (omega (arith, fits, counts.number, more.number))

  -- ---- the least runs

  pub least-later : (cmp : L → L → Ordering) (mark : ℕ) (run : Run L) → IsBest g cmp n mark run → IsBest g cmp m mark run
  least-later cmp mark run best = record {
    has = record { is_run = (best.has).is_run; short = let short = (best.has).short in omega (arith, short, le); marked = (best.has).marked };
    least = λ other has. least other has (cases_lt n (steps_of other));
  }
    where
      least : (other : Run L) → HasMark g m mark other → (n < steps_of other) ⊎ (steps_of other ≤ n) → NoLater cmp run other
      least other has (inl longer) = inl (inl (let short = (best.has).short in omega (arith, short, longer)))
      least other has (inr short) = best.least other (record { is_run = has.is_run; short = short; marked = has.marked })

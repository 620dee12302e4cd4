-- Where longer runs reach no other live parts, they end with no other verdicts, and the least runs stay the least.
use Rattle.std.proofs.Common.{◌≡◌, ℕ, zero, suc, ◌<◌, ◌≤◌, List, [], ◌∷◌, length, get_or, Option, Some, None, refl, sym, ap, subst, ◌∙◌, arith, inl, inr}
use Rattle.std.specs.Prelude.{◌≢◌, ◌⊎◌, AllPairs, Contains}
use Rattle.std.proofs.lemmas.Bool.{cases_lt}
use Rattle.ttcnx_runs.specs.Found.{IsBestRun}
use Rattle.laws_live.proofs.Counting.{no-longer}
use Rattle.laws_live.specs.Parts.{CountsParts, IsPartReached}
use Rattle.semantics.proofs.LiveTheorem.{mark_live}
use Rattle.semantics.specs.Configurations.{Configuration, badness}
use Rattle.semantics.specs.Labels.{label_cmp}
use Rattle.semantics.specs.LiveParts.{live_part}
use Rattle.semantics.specs.Runs.{graph_of, mark_of}
use Rattle.semantics.specs.Snapshots.{Test}
use Rattle.semantics.specs.Steps.{Label}
use Rattle.summary.specs.Exploration.{HasMark, IsBest}
use Rattle.summary.specs.Run.{NoLater, Run, end_of, steps_of}
use Rattle.ttcn_syntax.specs.declared.tree.statement.Verdict.{Verdict}

-- ---- an element more

same-default : {A : Type 0} (xs : List A) (i : ℕ) (x d : A) → i < length xs → get_or xs i x ≡ get_or xs i d
same-default [] i x d below = absurd (omega arith)
same-default (y ∷ ys) zero x d below = refl
same-default (y ∷ ys) (suc i) x d below = same-default ys i x d (omega (arith, below))

module _ {A : Type 0} (x : A) (xs : List A) where
  apart-more : (Contains xs x → ⊥) → AllPairs (λ y z. y ≢ z) xs → AllPairs (λ y z. y ≢ z) (x ∷ xs)
  apart-more lacks pairs zero zero d before within = absurd (omega arith)
  apart-more lacks pairs zero (suc j) d before within = λ same. lacks (j, omega (arith, within), same-default xs j x d (omega (arith, within)) ∙ sym same)
  apart-more lacks pairs (suc i) zero d before within = absurd (omega arith)
  apart-more lacks pairs (suc i) (suc j) d before within = pairs i j d (omega (arith, before)) (omega (arith, within))

  each-of : (P : A → Type 0) → P x → ((y : A) → Contains xs y → P y) → (y : A) → Contains (x ∷ xs) y → P y
  each-of P first others y (zero, below, is) = subst P is first
  each-of P first others y (suc k, below, is) = others y (k, omega (arith, below), is)

-- ---- marks

module _ (test : Test) (n m : ℕ) (le : n ≤ m) where
  later : (part : Configuration) → IsPartReached test n part → IsPartReached test m part
  later part is = record { run = is.run; is_run = is.is_run; short = let short = is.short in omega (arith, short, le); ends = is.ends }

  marked-later : (count mark : ℕ) → CountsParts test n count → CountsParts test m count → ((run : Run Label) → HasMark (graph_of test) n mark run → ⊥)
      → (run : Run Label) → HasMark (graph_of test) m mark run → ⊥
  marked-later count mark counts more none run has =
      let part = live_part (end_of (graph_of test) run) in
      let marked : mark_of part ≡ Some mark = mark_live (end_of (graph_of test) run) ∙ has.marked in
      let lacks : Contains counts.parts part → ⊥ = λ found.
      let is = counts.reached part found in
      none is.run (record { is_run = is.is_run; short = is.short; marked = sym (mark_live (end_of (graph_of test) is.run)) ∙ ap mark_of is.ends ∙ marked }) in
      let reached : IsPartReached test m part = record { run = run; is_run = has.is_run; short = has.short; ends = refl } in
      let fits : length (part ∷ counts.parts) ≤ length more.parts =
      no-longer (part ∷ counts.parts) more.parts (apart-more part counts.parts lacks counts.different)
      (each-of part counts.parts (Contains more.parts) (more.all part reached) (λ other found. more.all other (later other (counts.reached other found)))) in
      absurd (omega (arith, fits, counts.number, more.number))

  -- ---- the least runs

  least-later : (mark : ℕ) (run : Run Label) → IsBest (graph_of test) label_cmp n mark run → IsBest (graph_of test) label_cmp m mark run
  least-later mark run best = record {
    has = record { is_run = (best.has).is_run; short = let short = (best.has).short in omega (arith, short, le); marked = (best.has).marked };
    least = λ other has. least other has (cases_lt n (steps_of other));
  }
    where
      least : (other : Run Label) → HasMark (graph_of test) m mark other → (n < steps_of other) ⊎ (steps_of other ≤ n) → NoLater label_cmp run other
      least other has (inl longer) = inl (inl (let short = (best.has).short in omega (arith, short, longer)))
      least other has (inr short) = best.least other (record { is_run = has.is_run; short = short; marked = has.marked })

  pub best-later : (count : ℕ) → CountsParts test n count → CountsParts test m count → (v : Verdict) (labels : Option (List Label)) → IsBestRun test n v labels → IsBestRun test m v labels
  best-later count counts more v None none = marked-later count (badness v) counts more none
  best-later count counts more v (Some labels) best = (best.0, least-later (badness v) best.0 best.1, best.2)

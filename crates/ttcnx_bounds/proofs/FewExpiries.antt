-- A run has no more expiries than steps, so a bound of as many leaves all runs.
use Rattle.std.proofs.Common.{◌≡◌, ℕ, suc, ◌+◌, ◌≤◌, ◌<◌, Bool, true, false, None, if◌then◌else◌, inl, inr, subst, sym}
use Rattle.std.specs.Prelude.{◌⊎◌}
use Rattle.std.proofs.Math.Nat.{le_step, le_trans}
use native.Mathlib.Omega.{arith}
use Rattle.laws_bounds.specs.BoundedParts.{HasMarkBounded, kind_of}
use Rattle.search_bounds.specs.KeptRuns.{expiries_of, is_expiry}
use Rattle.semantics.specs.Configurations.{badness}
use Rattle.semantics.specs.Snapshots.{Test}
use Rattle.semantics.specs.Steps.{Label}
use Rattle.summary.specs.Run.{Run, Start, Then, steps_of}
use Rattle.ttcn_syntax.specs.declared.tree.statement.Verdict.{Verdict}
use Rattle.ttcnx_bounds.specs.BoundedFound.{IsBestRunBounded}
use Rattle.ttcnx_bounds.specs.Fewest.{any_number, at_most}

one-more : (b : Bool) (e s : ℕ) → e ≤ s → (if b then suc e else e) ≤ suc s
one-more true e s low = grind arith
one-more false e s low = le_step low

expiries-below : (run : Run Label) → expiries_of kind_of run ≤ steps_of run
expiries-below Start = grind arith
expiries-below (Then run label) = one-more (is_expiry (kind_of label)) (expiries_of kind_of run) (steps_of run) (expiries-below run)

-- the numbers of a plan's steps end before the loop does
pub within : (n end : ℕ) → n ≤ 100000 → 100001 ≤ end → n < end
within n end low over = grind arith

module _ (test : Test) (patient : Bool) (n : ℕ) (verdict : Verdict) where
  has-few : (run : Run Label) → HasMarkBounded test (any_number patient) n (badness verdict) run → HasMarkBounded test (at_most patient n) n (badness verdict) run
  has-few run has = record {
    keeps = record { is_run = has.keeps.is_run; few = le_trans (expiries-below run) has.short; patient = has.keeps.patient };
    short = has.short;
    marked = has.marked;
  }

  -- where none is found with fewer expiries than a number beyond the steps, there is none
  pub none-at-all : (most : ℕ) → n < most → ((fewer : ℕ) → fewer < most → IsBestRunBounded test (at_most patient fewer) n verdict None) → IsBestRunBounded test (any_number patient) n verdict None
  none-at-all most low none run has = none n low run (has-few run has)

  -- where none is found with fewer expiries than a number, and none with that number, there is none with fewer than one more
  pub none-so-far : (most : ℕ) → ((fewer : ℕ) → fewer < most → IsBestRunBounded test (at_most patient fewer) n verdict None) → IsBestRunBounded test (at_most patient most) n verdict None
      → (fewer : ℕ) → fewer < most + 1 → IsBestRunBounded test (at_most patient fewer) n verdict None
  none-so-far most none last fewer low = either (lt_or_eq low)
    where
      lt_or_eq : fewer < most + 1 → (fewer < most) ⊎ (fewer ≡ most)
      lt_or_eq low = grind arith

      either : (fewer < most) ⊎ (fewer ≡ most) → IsBestRunBounded test (at_most patient fewer) n verdict None
      either (inl less) = none fewer less
      either (inr same) = subst (λ (k : ℕ). IsBestRunBounded test (at_most patient k) n verdict None) (sym same) last

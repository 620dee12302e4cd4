-- The runs of a test case with the fewest expiries of timers that end with a verdict.
use Rattle.std.specs.Prelude.{ℕ, ◌<◌, Bool, List, Option, Some, None}
use Rattle.laws_bounds.specs.BoundedParts.{CountsBounded}
use Rattle.search_bounds.specs.declared.bound.Bound.{Bound}
use Rattle.semantics.specs.Snapshots.{Test}
use Rattle.semantics.specs.Steps.{Label}
use Rattle.ttcn_syntax.specs.declared.tree.statement.Verdict.{Verdict}
use Rattle.ttcnx_bounds.specs.BoundedFound.{IsBestRunBounded}
use Rattle.ttcnx_bounds.specs.declared.fewest.Fewest.{Fewest}

-- the bound that allows so many expiries at most
abbrev pub at_most : Bool → ℕ → Bound
at_most patient expiries = record { expiries = Some expiries; patient = patient }

-- the bound that allows any number of them
abbrev pub any_number : Bool → Bound
any_number patient = record { expiries = None; patient = patient }

-- the labels are those of the least of the shortest runs of at most n steps that end with the verdict and have so many expiries
-- at most, and no run with fewer ends with it
pub record HasFewest (test : Test) (patient : Bool) (n : ℕ) (verdict : Verdict) (expiries : ℕ) (labels : List Label) : Type 0 where
  pub best : IsBestRunBounded test (at_most patient expiries) n verdict (Some labels)
  pub none_fewer : (fewer : ℕ) → fewer < expiries → IsBestRunBounded test (at_most patient fewer) n verdict None

-- how many expiries a run needs that ends with the verdict isn't told: none with fewer than some number ends with it, and the runs
-- with at most so many reach more pairs than the limit
pub record IsUndecided (test : Test) (patient : Bool) (n limit : ℕ) (verdict : Verdict) : Type 0 where
  pub expiries : ℕ
  pub none_fewer : (fewer : ℕ) → fewer < expiries → IsBestRunBounded test (at_most patient fewer) n verdict None
  pub count : ℕ
  pub counts : CountsBounded test (at_most patient expiries) n count
  pub many : limit < count

-- such a run, or none exactly where no run of at most n steps ends with the verdict
abbrev pub IsFewest : Test → Bool → ℕ → Verdict → Option Fewest → Type 0
IsFewest test patient n verdict None = IsBestRunBounded test (any_number patient) n verdict None
IsFewest test patient n verdict (Some fewest) = HasFewest test patient n verdict fewest.expiries fewest.run.items

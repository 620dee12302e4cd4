-- The runs that a search keeps over live parts within a bound are the least of the shortest runs that keep it, and stay so where
-- longer runs reach nothing else.
use Rattle.std.proofs.Common.{ℕ, ◌≤◌, List, Option, Some, None, option_map, refl}
use Rattle.std.specs.Prelude.{slice_index_or}
use Rattle.std.specs.declared.alloc.Global.{Global}
use Rattle.std.specs.declared.vec.Vec.{Vec}
use Rattle.explore.specs.Best.{AreBest, IsBestOf}
use Rattle.laws_bounds.proofs.BoundedTests.{best-bounded, counts-bounded, marked-bounded}
use Rattle.laws_bounds.proofs.Counted.{same-counts}
use Rattle.laws_bounds.proofs.Longer.{least-later, marked-later}
use Rattle.laws_bounds.specs.BoundedParts.{CountsBounded, HasMarkBounded, IsBestBounded}
use Rattle.laws_bounds.specs.Seen.{CountsKept}
use Rattle.laws_bounds.specs.StandsFor.{StandsFor}
use Rattle.search_bounds.specs.declared.bound.Bound.{Bound}
use Rattle.semantics.specs.Configurations.{badness}
use Rattle.semantics.specs.Labels.{label_cmp}
use Rattle.semantics.specs.Snapshots.{Test}
use Rattle.semantics.specs.Steps.{Label}
use Rattle.summary.specs.Run.{Run}
use Rattle.ttcn_syntax.specs.declared.tree.statement.Verdict.{Verdict}
use Rattle.ttcnx_bounds.proofs.Sums.{parts_within}
use Rattle.ttcnx_bounds.specs.BoundedFound.{IsBestRunBounded}
use Rattle.ttcnx_runs.proofs.Best.{below-8}

module _ (test : Test) (bound : Bound) where
  -- ---- up to one number of steps

  module _ (n : ℕ) (v : Verdict) where
    best-of : (kept : Option (Vec Label Global)) → IsBestOf (parts_within test bound) label_cmp n (badness v) kept → IsBestRunBounded test bound n v (option_map (λ run. run.items) kept)
    best-of None best = λ run has. best run ((marked-bounded test bound n (badness v) run).1 has)
    best-of (Some labels) best = (best.0, (best-bounded test bound label_cmp n (badness v) best.0).0 best.1, best.2)

    pub best-within : (kept : List (Option (Vec Label Global))) → AreBest (parts_within test bound) label_cmp n kept → IsBestRunBounded test bound n v (option_map (λ run. run.items) (slice_index_or kept (badness v) None))
    best-within kept best = best-of (slice_index_or kept (badness v) None) (best.each (badness v) (below-8 v))

  -- ---- with more steps

  itself : StandsFor (parts_within test bound) (parts_within test bound) (λ b. b)
  itself = record { first = refl; enabled = λ b. refl; after = λ b label. refl; mark = λ b. refl }

  counted : (n count : ℕ) → CountsBounded test bound n count → CountsKept (parts_within test bound) (λ b. b) n count
  counted n count counts = (same-counts (parts_within test bound) (parts_within test bound) (λ b. b) itself n count).0 ((counts-bounded test bound n count).1 counts)

  module _ (n m : ℕ) (le : n ≤ m) where
    unmarked-later : (count mark : ℕ) → CountsBounded test bound n count → CountsBounded test bound m count → ((run : Run Label) → HasMarkBounded test bound n mark run → ⊥) → (run : Run Label) → HasMarkBounded test bound m mark run → ⊥
    unmarked-later count mark counts more none run has =
        marked-later (parts_within test bound) (parts_within test bound) (λ b. b) itself n m le count mark (counted n count counts) (counted m count more)
        (λ other also. none other ((marked-bounded test bound n mark other).0 also)) run ((marked-bounded test bound m mark run).1 has)

    least-stays : (mark : ℕ) (run : Run Label) → IsBestBounded test bound label_cmp n mark run → IsBestBounded test bound label_cmp m mark run
    least-stays mark run best =
        (best-bounded test bound label_cmp m mark run).0
        (least-later (parts_within test bound) (parts_within test bound) (λ b. b) itself n m le label_cmp mark run ((best-bounded test bound label_cmp n mark run).1 best))

    pub best-stays : (count : ℕ) → CountsBounded test bound n count → CountsBounded test bound m count → (v : Verdict) (labels : Option (List Label)) → IsBestRunBounded test bound n v labels → IsBestRunBounded test bound m v labels
    best-stays count counts more v None none = unmarked-later count (badness v) counts more none
    best-stays count counts more v (Some labels) best = (best.0, least-stays (badness v) best.0 best.1, best.2)

-- What an exploration up to a bound answers, by runs alone.
use Rattle.std.specs.Prelude.{◌≡◌, ◌≢◌, ℕ, ◌≤◌, ◌<◌, List, [], length, Some, Contains, AllPairs}
use Rattle.std.specs.declared.cmp.Ordering.{Ordering}
use Rattle.summary.specs.Graph.{Graph}
use Rattle.summary.specs.Run.{Run, steps_of, end_of, IsRun, NoLater}

-- some run of at most n steps ends in the configuration
pub record IsReached {C L : Type 0} (g : Graph C L) (n : ℕ) (c : C) : Type 0 where
  pub run : Run L
  pub is_run : IsRun g run
  pub short : steps_of run ≤ n
  pub ends : end_of g run ≡ c

-- so many different configurations are reached by runs of at most n steps
pub record Counts {C L : Type 0} (g : Graph C L) (n count : ℕ) : Type 0 where
  pub configurations : List C
  pub different : AllPairs (λ c d. c ≢ d) configurations
  pub reached : (c : C) → Contains configurations c → IsReached g n c
  pub all : (c : C) → IsReached g n c → Contains configurations c
  pub number : length configurations ≡ count

-- no run of n steps, where no shorter one ends in the same configuration, ends where a label is enabled
abbrev pub IsComplete : {C L : Type 0} → Graph C L → ℕ → Type 0
IsComplete {C} {L} g n = (run : Run L) → IsRun g run → steps_of run ≡ n
    → ((other : Run L) → IsRun g other → steps_of other < n → end_of g other ≢ end_of g run)
    → g.enabled (end_of g run) ≡ []

-- a run of at most n steps whose end has the mark
pub record HasMark {C L : Type 0} (g : Graph C L) (n mark : ℕ) (run : Run L) : Type 0 where
  pub is_run : IsRun g run
  pub short : steps_of run ≤ n
  pub marked : g.mark (end_of g run) ≡ Some mark

-- the least of the runs of at most n steps whose end has the mark: none of them comes before it
pub record IsBest {C L : Type 0} (g : Graph C L) (cmp : L → L → Ordering) (n mark : ℕ) (run : Run L) : Type 0 where
  pub has : HasMark g n mark run
  pub least : (other : Run L) → HasMark g n mark other → NoLater cmp run other

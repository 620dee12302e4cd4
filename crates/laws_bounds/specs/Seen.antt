-- What runs up to a bound reach, where configurations of which the same is kept count as one.
use Rattle.std.specs.Prelude.{◌≡◌, ◌≢◌, ℕ, ◌≤◌, ◌<◌, List, [], length, Contains, AllPairs}
use Rattle.summary.specs.Graph.{Graph}
use Rattle.summary.specs.Run.{Run, IsRun, end_of, steps_of}

-- some run of at most n steps ends in a configuration of which this is kept
pub record IsKeptReached {C D L : Type 0} (g : Graph C L) (kept : C → D) (n : ℕ) (d : D) : Type 0 where
  pub run : Run L
  pub is_run : IsRun g run
  pub short : steps_of run ≤ n
  pub ends : kept (end_of g run) ≡ d

-- of the configurations that runs of at most n steps end in, so much that differs is kept
pub record CountsKept {C D L : Type 0} (g : Graph C L) (kept : C → D) (n count : ℕ) : Type 0 where
  pub parts : List D
  pub different : AllPairs (λ part other. part ≢ other) parts
  pub reached : (d : D) → Contains parts d → IsKeptReached g kept n d
  pub all : (d : D) → IsKeptReached g kept n d → Contains parts d
  pub number : length parts ≡ count

-- no run of n steps, where no shorter one ends in a configuration of which the same is kept, ends where a label is enabled
abbrev pub IsCompleteByKept : {C D L : Type 0} → Graph C L → (C → D) → ℕ → Type 0
IsCompleteByKept {C} {D} {L} g kept n = (run : Run L) → IsRun g run → steps_of run ≡ n
    → ((other : Run L) → IsRun g other → steps_of other < n → kept (end_of g other) ≢ kept (end_of g run))
    → g.enabled (end_of g run) ≡ []

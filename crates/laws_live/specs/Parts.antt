-- What runs up to a bound reach, where configurations with one live part count as one (ES 201 873-4).
use Rattle.std.specs.Prelude.{◌≡◌, ◌≢◌, ℕ, ◌≤◌, ◌<◌, List, [], length, Contains, AllPairs}
use Rattle.laws_live.specs.Same.{AreSame}
use Rattle.semantics.specs.Configurations.{Configuration}
use Rattle.semantics.specs.Labels.{labels}
use Rattle.semantics.specs.LiveParts.{live_part}
use Rattle.semantics.specs.Runs.{graph_of}
use Rattle.semantics.specs.Snapshots.{Test}
use Rattle.semantics.specs.Steps.{Label}
use Rattle.summary.specs.Run.{Run, IsRun, end_of, steps_of}

-- some run of at most n steps ends in a configuration with this live part
pub record IsPartReached (test : Test) (n : ℕ) (part : Configuration) : Type 0 where
  pub run : Run Label
  pub is_run : IsRun (graph_of test) run
  pub short : steps_of run ≤ n
  pub ends : live_part (end_of (graph_of test) run) ≡ part

-- the configurations that runs of at most n steps end in have so many different live parts
pub record CountsParts (test : Test) (n count : ℕ) : Type 0 where
  pub parts : List Configuration
  pub different : AllPairs (λ part other. part ≢ other) parts
  pub reached : (part : Configuration) → Contains parts part → IsPartReached test n part
  pub all : (part : Configuration) → IsPartReached test n part → Contains parts part
  pub number : length parts ≡ count

-- no run of n steps, where no shorter one ends in a configuration that is the same, ends where a label is enabled
abbrev pub IsCompleteByParts : Test → ℕ → Type 0
IsCompleteByParts test n = (run : Run Label) → IsRun (graph_of test) run → steps_of run ≡ n
    → ((other : Run Label) → IsRun (graph_of test) other → steps_of other < n → ¬ AreSame (end_of (graph_of test) other) (end_of (graph_of test) run))
    → labels test (end_of (graph_of test) run) ≡ []

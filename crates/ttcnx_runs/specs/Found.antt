-- What is found of a test case by all its runs of at most so many steps (ES 201 873-4).
use Rattle.std.specs.Prelude.{◌≡◌, ℕ, List, length, slice_index_or, Option, Some, None}
use Rattle.std.specs.Option.{option_map}
use Rattle.ttcn_syntax.specs.declared.place.Span.{Span}
use Rattle.ttcn_syntax.specs.declared.tree.statement.Verdict.{Verdict}
pub use Rattle.step_labels.specs.Standings.{place_cmp, standing_cmp}
use Rattle.ttcnx_runs.specs.declared.exploration.Exploration.{Exploration}
use Rattle.laws_live.specs.Parts.{CountsParts}
use Rattle.laws_live.specs.PlaceReadings.{blocked_reading, branch_reading}
use Rattle.summary.specs.Ascent.{Ascends}
use Rattle.summary.specs.KeySet.{empty, from_list, from_option, union_join}
use Rattle.step_labels.specs.declared.standing.Standing.{Standing}
use Rattle.semantics.specs.Configurations.{badness}
use Rattle.semantics.specs.Labels.{label_cmp}
use Rattle.semantics.specs.Runs.{graph_of}
use Rattle.semantics.specs.Snapshots.{Test}
use Rattle.semantics.specs.Steps.{Label}
use Rattle.summary.specs.Exploration.{HasMark, IsBest}
use Rattle.summary.specs.Sums.{sum_of}
use Rattle.summary.specs.Run.{Run, labels_of}

-- the least of the shortest runs that end with a verdict, or none exactly where no run does
abbrev pub IsBestRun : Test → ℕ → Verdict → Option (List Label) → Type 0
IsBestRun test n verdict None = (run : Run Label) → HasMark (graph_of test) n (badness verdict) run → ⊥
IsBestRun test n verdict (Some labels) = (run : Run Label) × IsBest (graph_of test) label_cmp n (badness verdict) run × (labels ≡ labels_of run)

-- the places of the branches that steps of these runs take, ascending
pub record AreBranches (test : Test) (n : ℕ) (places : List Span) : Type 0 where
  pub summed : from_list places ≡ sum_of (graph_of test) union_join (branch_reading test from_option empty) n
  pub ascend : Ascends place_cmp places

-- the components that are blocked where these runs end, each with the place where it stands, ascending
pub record AreBlocked (test : Test) (n : ℕ) (standings : List Standing) : Type 0 where
  pub summed : from_list standings ≡ sum_of (graph_of test) union_join (blocked_reading test from_list empty) n
  pub ascend : Ascends standing_cmp standings

-- the run that is kept for a verdict, by the verdict's number
abbrev pub run_kept : Exploration → Verdict → Option (List Label)
run_kept found verdict = option_map (λ run. run.items) (slice_index_or found.best.items (badness verdict) None)

-- what is found is true of the runs of at most n steps: how many configurations with different live parts they reach, the
-- verdicts that they end with, the branches that they take, and the components that are blocked
pub record AreFound (test : Test) (n : ℕ) (found : Exploration) : Type 0 where
  pub configurations : CountsParts test n found.configurations
  pub eight : length found.best.items ≡ 8
  pub best : (verdict : Verdict) → IsBestRun test n verdict (run_kept found verdict)
  pub branches : AreBranches test n found.branches.items
  pub blocked : AreBlocked test n found.blocked.items

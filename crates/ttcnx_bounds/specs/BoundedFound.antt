-- What is found of a test case by its runs of at most so many steps that keep a bound on expiries of timers (ES 201 873-4).
use Rattle.std.specs.Prelude.{◌≡◌, ℕ, List, false, length, Option, Some, None}
use Rattle.laws_bounds.specs.BoundedParts.{CountsBounded, HasMarkBounded, IsBestBounded, kind_of}
use Rattle.laws_bounds.specs.StandsFor.{of_states}
use Rattle.laws_live.specs.PlaceReadings.{blocked_reading, branch_reading}
use Rattle.search_bounds.specs.Bounded.{bounded}
use Rattle.search_bounds.specs.declared.bound.Bound.{Bound}
use Rattle.search_bounds.specs.declared.state.Bounded.{Bounded}
use Rattle.semantics.specs.Configurations.{Configuration, badness}
use Rattle.semantics.specs.Labels.{label_cmp}
use Rattle.semantics.specs.Runs.{graph_of}
use Rattle.semantics.specs.Snapshots.{Test}
use Rattle.semantics.specs.Steps.{Label}
use Rattle.step_labels.specs.Standings.{place_cmp, standing_cmp}
use Rattle.step_labels.specs.declared.standing.Standing.{Standing}
use Rattle.summary.specs.Ascent.{Ascends}
use Rattle.summary.specs.Graph.{Graph}
use Rattle.summary.specs.KeySet.{empty, from_list, from_option, union_join}
use Rattle.summary.specs.Run.{Run, labels_of}
use Rattle.summary.specs.Sums.{sum_of}
use Rattle.ttcn_syntax.specs.declared.place.Span.{Span}
use Rattle.ttcn_syntax.specs.declared.tree.statement.Verdict.{Verdict}
use Rattle.ttcnx_runs.specs.Found.{run_kept}
use Rattle.ttcnx_runs.specs.declared.exploration.Exploration.{Exploration}

-- the bound that forbids nothing
abbrev pub no_bound : Bound
no_bound = record { expiries = None; patient = false }

-- the runs of a test case that keep a bound, as those of a graph
abbrev pub graph_within : Test → Bound → Graph (Bounded Configuration) Label
graph_within test bound = bounded bound kind_of (graph_of test)

-- the least of the shortest of these runs that end with a verdict, or none exactly where no run does
abbrev pub IsBestRunBounded : Test → Bound → ℕ → Verdict → Option (List Label) → Type 0
IsBestRunBounded test bound n verdict None = (run : Run Label) → HasMarkBounded test bound n (badness verdict) run → ⊥
IsBestRunBounded test bound n verdict (Some labels) = (run : Run Label) × IsBestBounded test bound label_cmp n (badness verdict) run × (labels ≡ labels_of run)

-- the places of the branches that steps of these runs take, ascending
pub record AreBranchesBounded (test : Test) (bound : Bound) (n : ℕ) (places : List Span) : Type 0 where
  pub summed : from_list places ≡ sum_of (graph_within test bound) union_join (of_states (branch_reading test from_option empty)) n
  pub ascend : Ascends place_cmp places

-- the components that are blocked where these runs end, each with the place where it stands, ascending: no label is enabled there,
-- within the bound or not
pub record AreBlockedBounded (test : Test) (bound : Bound) (n : ℕ) (standings : List Standing) : Type 0 where
  pub summed : from_list standings ≡ sum_of (graph_within test bound) union_join (of_states (blocked_reading test from_list empty)) n
  pub ascend : Ascends standing_cmp standings

-- what is found is true of the runs of at most n steps that keep the bound: how many different pairs of a live part and of how
-- many timers may still expire they reach, the verdicts that they end with, the branches that they take, and the components that
-- are blocked
pub record AreFoundBounded (test : Test) (bound : Bound) (n : ℕ) (found : Exploration) : Type 0 where
  pub configurations : CountsBounded test bound n found.configurations
  pub eight : length found.best.items ≡ 8
  pub best : (verdict : Verdict) → IsBestRunBounded test bound n verdict (run_kept found verdict)
  pub branches : AreBranchesBounded test bound n found.branches.items
  pub blocked : AreBlockedBounded test bound n found.blocked.items

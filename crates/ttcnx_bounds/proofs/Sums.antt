-- Branches and blocked components that a search over live parts within a bound sums up.
use Rattle.std.proofs.Common.{◌≡◌, ℕ, List, Option, ◌∙◌}
use Rattle.laws_bounds.proofs.BoundedTests.{sums-bounded}
use Rattle.laws_bounds.specs.BoundedParts.{kind_of}
use Rattle.laws_live.proofs.SameReadings.{blocked_seen, branches_seen}
use Rattle.laws_live.specs.PlaceReadings.{blocked_reading, branch_reading}
use Rattle.search_bounds.specs.Bounded.{bounded}
use Rattle.search_bounds.specs.declared.bound.Bound.{Bound}
use Rattle.search_bounds.specs.declared.state.Bounded.{Bounded}
use Rattle.semantics.specs.Canonical.{canonical_graph}
use Rattle.semantics.specs.Configurations.{Configuration}
use Rattle.semantics.specs.Places.{blocked, branch_of}
use Rattle.semantics.specs.Snapshots.{Test}
use Rattle.semantics.specs.Steps.{Label}
use Rattle.step_labels.specs.Standings.{place_cmp, standing_cmp}
use Rattle.step_labels.specs.declared.standing.Standing.{Standing}
use Rattle.summary.specs.Ascent.{Ascends}
use Rattle.summary.specs.Graph.{Graph}
use Rattle.summary.specs.KeySet.{KeySet, empty, from_list, from_option, union_join}
use Rattle.ttcn_syntax.specs.declared.place.Span.{Span}
use Rattle.ttcnx_bounds.specs.BoundedFound.{AreBlockedBounded, AreBranchesBounded}
use Rattle.ttcnx_runs.specs.Sums.{blocked_of, branches_of}

-- the live parts within a bound, as a graph
abbrev pub parts_within : Test → Bound → Graph (Bounded Configuration) Label
parts_within test bound = bounded bound kind_of (canonical_graph test)

-- the branch that a step takes, where it is also known how many timers may still expire
abbrev pub branch_within : Test → Bounded Configuration → Label → Option Span
branch_within test b label = branch_of test b.state label

-- the components that are blocked, where this is known
abbrev pub blocked_within : Test → Bounded Configuration → List Standing
blocked_within test b = blocked test b.state

module _ (test : Test) (bound : Bound) (n : ℕ) where
  pub branches-bounded : (set : KeySet Span) → set ≡ branches_of (parts_within test bound) (branch_within test) n → (places : List Span) → from_list places ≡ set
      → Ascends place_cmp places → AreBranchesBounded test bound n places
  branches-bounded set is places same ascend = record {
    summed = same ∙ is ∙ sums-bounded test bound union_join (branch_reading test from_option empty) (branches_seen test from_option empty) n;
    ascend = ascend;
  }

  pub blocked-bounded : (set : KeySet Standing) → set ≡ blocked_of (parts_within test bound) (blocked_within test) n → (standings : List Standing) → from_list standings ≡ set
      → Ascends standing_cmp standings → AreBlockedBounded test bound n standings
  blocked-bounded set is standings same ascend = record {
    summed = same ∙ is ∙ sums-bounded test bound union_join (blocked_reading test from_list empty) (blocked_seen test from_list empty) n;
    ascend = ascend;
  }

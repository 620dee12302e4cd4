-- Branches and blocked components that a search over live parts sums up.
use Rattle.std.proofs.Common.{◌≡◌, ℕ, List, ◌∙◌}
use Rattle.ttcn_syntax.specs.declared.place.Span.{Span}
use Rattle.ttcnx_runs.specs.Found.{AreBlocked, AreBranches, place_cmp, standing_cmp}
use Rattle.ttcnx_runs.specs.Sums.{blocked_of, branches_of}
use Rattle.laws_live.proofs.SameReadings.{blocked_seen, branches_seen}
use Rattle.laws_live.specs.PlaceReadings.{blocked_reading, branch_reading}
use Rattle.summary.specs.Ascent.{Ascends}
use Rattle.summary.specs.KeySet.{KeySet, empty, from_list, from_option, union_join}
use Rattle.semantics.proofs.CanonicalRuns.{sums_alike}
use Rattle.semantics.specs.Canonical.{canonical_graph}
use Rattle.semantics.specs.Places.{blocked, branch_of}
use Rattle.semantics.specs.Snapshots.{Test}
use Rattle.step_labels.specs.declared.standing.Standing.{Standing}

module _ (test : Test) (n : ℕ) where
  pub branches-found : (set : KeySet Span) → set ≡ branches_of (canonical_graph test) (branch_of test) n → (places : List Span) → from_list places ≡ set
      → Ascends place_cmp places → AreBranches test n places
  branches-found set is places same ascend = record {
    summed = same ∙ is ∙ sums_alike test union_join (branch_reading test from_option empty) (branches_seen test from_option empty) n;
    ascend = ascend;
  }

  pub blocked-found : (set : KeySet Standing) → set ≡ blocked_of (canonical_graph test) (blocked test) n → (standings : List Standing) → from_list standings ≡ set
      → Ascends standing_cmp standings → AreBlocked test n standings
  blocked-found set is standings same ascend = record {
    summed = same ∙ is ∙ sums_alike test union_join (blocked_reading test from_list empty) (blocked_seen test from_list empty) n;
    ascend = ascend;
  }

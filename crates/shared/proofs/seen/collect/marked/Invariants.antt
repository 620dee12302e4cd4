use Rattle.std.proofs.Common.{◌≡◌, ℕ, ◌<◌, ◌↔◌, true, false, slice_index_or}
use Rattle.std.specs.List.Sorted.{IsStrictlyIncreasing}
use Rattle.shared.specs.Totals.{Stands}
use Rattle.shared.proofs.seen.collect.marked.Given as goal

abbrev pub invariant-loop-position : goal.invariant-loop-position
invariant-loop-position l = record {
  ascending : IsStrictlyIncreasing l.firsts.items;
  members : (j : ℕ) → Stands j l.firsts.items ↔ ((j < l.position) × (slice_index_or l.marks j false ≡ true));
}

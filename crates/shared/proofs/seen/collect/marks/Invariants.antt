use Rattle.std.proofs.Common.{◌≡◌, ℕ, ◌+◌, ◌<◌, true, false, length, slice_index, slice_index_or}
use Rattle.shared.proofs.seen.collect.marks.Given as goal

abbrev pub invariant-loop-word : goal.invariant-loop-word
invariant-loop-word l = record {
  size : length l.marks.items ≡ l.count;
  marked : (j : ℕ) → slice_index_or l.marks.items j false ≡ true → (a : ℕ) × (slice_index l.closed.words.items a ≡ j + 1);
  all : (a j : ℕ) → a < l.word → slice_index l.closed.words.items a ≡ j + 1 → slice_index_or l.marks.items j false ≡ true;
}

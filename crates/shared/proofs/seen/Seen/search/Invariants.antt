use Rattle.std.proofs.Common.{◌≡◌, ℕ, ◌+◌, ◌<◌, length, map, slice_index}
use Rattle.shared.specs.Classes.{start_of}
use Rattle.shared.specs.SeenRule.{along, AreAlike, IsSameSeat, OneWordEach}
use Rattle.shared.specs.SeenSeats.{view, items_of, words_of, IsSeatOf}
use Rattle.shared.proofs.seen.Seen.search.Given as goal

abbrev pub invariant-loop-way : goal.invariant-loop-way
invariant-loop-way g l = record {
  own : IsSeatOf g.S.PartialEq.eq l.self l.seat;
  same : IsSameSeat (view l.fn.seat) (view l.seat);
  placed : (view l.seat).placed ≡ (view l.fn.seat).placed;
  answered : (view l.seat).answered ≡ (view l.fn.seat).answered;
  steps : (view l.seat).steps ≡ (view l.fn.seat).steps + l.way;
  one_word : 0 < l.way → OneWordEach (view l.seat).classes (view l.seat).known;
  here : l.word ≡ along (words_of l.self) (slice_index (map (start_of g.S.Hash.hash_input (words_of l.self)) (items_of l.self)) l.index) l.way;
  full : (t : ℕ) → t < l.way → (j : ℕ) × (slice_index (view l.seat).known (along (words_of l.self) (slice_index (map (start_of g.S.Hash.hash_input (words_of l.self)) (items_of l.self)) l.index) t) ≡ j + 1) × ¬ (AreAlike (view l.seat).classes j l.index) × (j < length (items_of l.self));
}

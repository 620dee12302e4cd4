use Rattle.std.proofs.Common.{◌≡◌, ◌≤◌, ℕ, [], length, get_or, vec_capacity}
use Rattle.search_shards.proofs.set.ShardedSet.new.Given as goal

abbrev pub invariant-loop : goal.invariant-loop
invariant-loop g l = record {
  none : (s : ℕ) → get_or l.made.items s [] ≡ [];
  count : length l.made.items ≡ l.counter;
  room : l.fn.shards ≤ vec_capacity l.made;
}

use Rattle.std.proofs.Common.{◌≡◌, ◌≤◌, length, vec_capacity}
use Rattle.search_shards.proofs.cells.free_cells.Given as goal

abbrev pub invariant-loop : goal.invariant-loop
invariant-loop l = record {
  count : length l.cells.items ≡ l.counter;
  room : l.fn.count ≤ vec_capacity l.cells;
}

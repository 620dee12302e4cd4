use Rattle.std.proofs.Common.{◌≡◌, ◌++◌}
use Rattle.std.specs.Vec.Iter.{into_iter_items}
use Rattle.search_shards.proofs.set.settle_here.Given as goal

abbrev pub invariant-loop-shard : goal.invariant-loop-shard
invariant-loop-shard g l = l.fn.shards.items ≡ l.settled.items ++ into_iter_items l.shard-iterator

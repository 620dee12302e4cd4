use Rattle.search_shards.specs.internal.Cells.{AreFound}
use Rattle.search_shards.proofs.shard.Shard.settle.Given as goal

abbrev pub invariant-loop-index : goal.invariant-loop-index
invariant-loop-index g l = AreFound g.T.Hash.hash_input l.values.items l.cells.items l.index

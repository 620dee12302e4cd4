use Rattle.std.proofs.Common.{◌≡◌, ◌-◌, length}
use Rattle.search_layer.specs.internal.Shards.{AreShardsFrom}
use Rattle.search_layer.proofs.workers.Work.shards_between.Given as goal

abbrev pub invariant-loop-at : goal.invariant-loop-at
invariant-loop-at g l = record {
  count : length l.shards.items ≡ l.at - l.from;
  each : AreShardsFrom g.Y.State.Hash.hash_input l.self.visited.now.shards l.self.candidates.now l.from l.shards.items;
}

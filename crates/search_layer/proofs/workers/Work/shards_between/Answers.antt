use Rattle.std.proofs.Common.{◌∷◌, [], length, ap, sym, subst, ◌∙◌, length-append, arith}
use Rattle.search_layer.specs.internal.Shards.{AreShardsFrom}
use Rattle.search_layer.proofs.ShardList.{shard-here, shards-more}
use Rattle.search_layer.proofs.workers.Work.shards_between.Goals as goal

pub loop-at-preserved : goal.loop-at-preserved
loop-at-preserved g c =
    let input = g.Y.State.Hash.hash_input in
    let shards = c.args.self.now.visited.now.shards in
    let cs = c.args.self.now.candidates.now in
    let at = c.loop-at.at in
    let numbers = c.loop-at.shards.items in
    let number = c.shard_in.result in
    let items = c.in_ok-push.ensures.items in
    let count = c.loop-at.invariant.count in
    let here = shard-here input shards cs at number c.index-self-at.result (omega arith) c.index-self-at.is (λ s given. c.shard_in.ensures s (ap (λ (k : _). k.state) (sym c.index-self-at.is) ∙ given)) in
    record {
      count = (let l = ap length items in let m = length-append numbers (number ∷ []) in omega arith);
      each = subst (AreShardsFrom input shards cs c.args.from) (sym items) (shards-more input shards cs c.args.from at numbers number (omega arith) count c.loop-at.invariant.each here);
    }

use Rattle.std.proofs.Common.{◌≡◌, [], ◌∷◌, ◌++◌, sym, ap, ◌∙◌, append-nil, arith}
use Rattle.std.specs.Vec.Iter.{into_iter_items}
use Rattle.search_shards.proofs.Shards.{all-moved, one-moved}
use Rattle.search_shards.proofs.set.settle_here.Goals as goal

pub loop-shard-init : goal.loop-shard-init
loop-shard-init g c =
    sym c.into_iter-shard-iterator.ensures.into_iter_gives.0
    ∙ ap (λ shards. shards ++ into_iter_items c.into_iter-shard-iterator.result) (sym c.in_ok-settled.ensures.items)

pub loop-shard-preserved : goal.loop-shard-preserved
loop-shard-preserved g c =
    let settled = c.loop-shard.settled.items in
    let pushed : c.push.new.self.items ≡ settled ++ c.in_ok-settle.field-0 ∷ [] = c.in_ok-push.ensures.items in
    let same : c.in_ok-settle.field-0 ≡ c.in-Some.shard = c.in_ok-settle.ensures in
    one-moved c.args.shards.items settled c.push.new.self.items (into_iter_items c.loop-shard.shard-iterator) (into_iter_items c.next.new.self) c.in-Some.shard
    c.loop-shard.invariant c.in-Some.ensures.steps.0
    (pushed ∙ ap (λ shard. settled ++ shard ∷ []) same)

pub returns : goal.returns
returns g c =
    sym (append-nil c.loop-shard.settled.items)
    ∙ all-moved c.args.shards.items c.loop-shard.settled.items (into_iter_items c.loop-shard.shard-iterator) [] c.loop-shard.invariant
    (let none = c.in-None.ensures.steps.0 in let ok = c.loop-shard.shard-iterator.rest.ok in omega arith) (λ _. [])

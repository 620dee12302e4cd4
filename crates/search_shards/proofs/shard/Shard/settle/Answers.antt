use Rattle.std.proofs.Common.{◌<◌, Some, length, sym, ap, subst, ◌∙◌, arith}
use Rattle.std.proofs.lemmas.Option.{slice_get-get_or}
use Rattle.search_shards.specs.internal.Cells.{IsFound}
use Rattle.search_shards.proofs.Finding.{one-found}
use Rattle.search_shards.proofs.shard.Shard.settle.Goals as goal

pub loop-index-preserved : goal.loop-index-preserved
loop-index-preserved g c =
    let values = c.self.inside.values.items in
    let index = c.loop-index.index in
    let value = c.index.result.now in
    let low : index < length values = (let less = c.loop-index-test.true in let long = c.len-count.ensures in omega arith) in
    one-found g.T.Hash.hash_input values c.loop-index.cells.items c.put.new.cells.items index value c.loop-index.invariant low
    (slice_get-get_or values index value low ∙ ap Some (sym c.index.ensures))
    (subst (λ hash. IsFound c.put.new.cells.items hash index) c.hash_of.ensures c.in_ok-put.ensures.found)
    c.in_ok-put.ensures.others

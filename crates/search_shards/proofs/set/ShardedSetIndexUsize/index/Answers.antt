use Rattle.std.proofs.Common.{ℕ, ◌<◌, length, get_or, slice_get, sym, ap, subst, ◌∙◌, arith}
use Rattle.search_shards.proofs.Values.{in-places, place-held, shard-low, in-shard, value_of}
use Rattle.search_shards.proofs.set.ShardedSetIndexUsize.index.Goals as goal

pub index-place-requires : goal.index-place-requires
index-place-requires g c =
    let low = in-places c.self.inside.shards.items c.self.inside.places.items c.self.invariant.held c.args.self.now.keys (ap (λ s. s.keys) c.self.view_is) c.args.index c.requires in
    let ok = c.self.inside.places.ok in omega arith

pub index-requires : goal.index-requires
index-requires g c =
    let shards = c.self.inside.shards.items in
    let same = c.shard.ensures in
    let low = shard-low shards c.index-place.result.now
    (place-held shards c.self.inside.places.items c.self.invariant.held c.args.self.now.keys (ap (λ s. s.keys) c.self.view_is) c.args.index c.requires c.index-place.result.now c.index-place.ensures) in
    let ok = c.self.inside.shards.ok in omega arith

pub at-requires : goal.at-requires
at-requires g c =
    subst (λ (n : ℕ). n < length c.index.result.now) (sym c.index-2.ensures)
    (in-shard c.self.inside.shards.items c.self.inside.places.items c.self.invariant.held c.args.self.now.keys (ap (λ s. s.keys) c.self.view_is) c.args.index c.requires
    c.index-place.result.now c.index-place.ensures c.index.result.now (c.index.ensures ∙ ap (λ n. get_or c.self.inside.shards.items n c.index.result.now) c.shard.ensures))

pub returns : goal.returns
returns g c =
    value_of c.self.inside.shards.items c.self.inside.places.items c.self.invariant.held c.args.self.now.keys (ap (λ s. s.keys) c.self.view_is) c.args.index c.requires
    c.index-place.result.now c.index-place.ensures c.index.result.now (c.index.ensures ∙ ap (λ n. get_or c.self.inside.shards.items n c.index.result.now) c.shard.ensures) c.at.result.now
    (ap (slice_get c.index.result.now) (sym c.index-2.ensures) ∙ c.at.ensures)

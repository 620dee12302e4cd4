use Rattle.std.proofs.Common.{◌≡◌, ◌<◌, ℕ, [], length, get_or, sym, ap, subst, ◌∙◌}
use Rattle.std.proofs.Math.Nat.{mod-lt}
use Rattle.std.proofs.lemmas.List.{get_or_default}
use Rattle.std.specs.List.{list_any}
use Rattle.search_shards.specs.Sharded.{shard_of}
use Rattle.search_shards.proofs.Shards.{list_any-shard}
use Rattle.search_shards.proofs.set.ShardedSet.contains_in.Goals as goal

pub returns : goal.returns
returns g c =
    let eq = g.T.PartialEq.eq in
    let input = g.T.Hash.hash_input in
    let inside = c.self.inside in
    let value = c.args.value.now in
    let shards = inside.shards.items in
    let shard = c.args.shard in
    let own : shard ≡ shard_of input (length shards) value = c.requires ∙ ap (λ s. shard_of input s.shards value) (sym c.self.view_is) in
    let low : shard < length shards = subst (λ (n : ℕ). n < length shards) (sym own) (mod-lt _ c.self.invariant.some) in
    let kept = c.index.result.now in
    let read : kept ≡ get_or shards shard [] = c.index.ensures ∙ get_or_default shards shard kept [] low in
    let there : c.contains.result ≡ list_any (eq value) (get_or shards shard []) = subst (λ xs. c.contains.result ≡ list_any (eq value) xs) read c.contains.ensures in
    there
    ∙ list_any-shard eq input shards inside.places.items c.self.invariant g.met.T.Hash.respects_eq value shard own
    ∙ ap (λ s. list_any (eq value) s.keys) c.self.view_is

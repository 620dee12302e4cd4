use Rattle.std.proofs.Common.{◌≡◌, ◌<◌, ℕ, List, [], ◌∷◌, ◌++◌, length, get_or, set, sym, ap, subst, ◌∙◌}
use Rattle.std.proofs.Math.Nat.{mod-lt}
use Rattle.std.proofs.lemmas.List.{get_or_default}
use Rattle.std.specs.List.{list_any}
use Rattle.search_shards.specs.Sharded.{shard_of}
use Rattle.search_shards.specs.internal.Places.{values_in, IsSharded}
use Rattle.search_shards.proofs.Shards.{grown, new_place, values_in-push, IsSharded-push}
use Rattle.search_shards.proofs.set.ShardedSet.push.Goals as goal
use Rattle.search_shards.proofs.set.ShardedSet.push.Given.{Over}
use Rattle.search_shards.proofs.set.ShardedSet.push.Goals.{After-push_reserved}

own : (g : Over) (c : After-push_reserved g) → c.args.shard ≡ shard_of g.T.Hash.hash_input (length c.self.inside.shards.items) c.args.value
own g c = c.requires.shard ∙ ap (λ s. shard_of g.T.Hash.hash_input s.shards c.args.value) (sym c.self.view_is)

low : (g : Over) (c : After-push_reserved g) → c.args.shard < length c.self.inside.shards.items
low g c = subst (λ (n : ℕ). n < length c.self.inside.shards.items) (sym (own g c)) (mod-lt _ c.self.invariant.some)

same-shards : (g : Over) (c : After-push_reserved g) → set c.self.inside.shards.items c.args.shard c.push.new.self ≡ grown c.self.inside.shards.items c.args.shard c.args.value (low g c)
same-shards g c =
    ap (λ shard. set c.self.inside.shards.items c.args.shard shard)
    (c.in_ok-push.ensures.pushed ∙ ap (λ shard. shard ++ c.args.value ∷ []) (c.index_mut.ensures.value ∙ get_or_default c.self.inside.shards.items c.args.shard c.index_mut.result.now [] (low g c)))

same-places : (g : Over) (c : After-push_reserved g) → c.push_reserved.new.self.items ≡ c.self.inside.places.items ++ new_place c.self.inside.shards.items c.args.shard c.args.value (low g c) ∷ []
same-places g c =
    c.push_reserved.ensures.items
    ∙ (λ i. c.reserve.ensures.items i ++ (c.in_ok-place.ensures ∙ ap (λ index. (c.args.shard, index)) index) i ∷ [])
  where
    index : c.len.result ≡ length (get_or c.self.inside.shards.items c.args.shard [])
    index = c.len.ensures ∙ ap length (c.index.ensures ∙ get_or_default c.self.inside.shards.items c.args.shard c.index.result.now [] (low g c))

pub invariant_of-self-2 : goal.invariant_of-self-2
invariant_of-self-2 g c =
    let eq = g.T.PartialEq.eq in
    let input = g.T.Hash.hash_input in
    let inside = c.self.inside in
    subst (λ (ss : List (List _)). IsSharded eq input ss c.push_reserved.new.self.items) (sym (same-shards g c))
    (subst (IsSharded eq input (grown inside.shards.items c.args.shard c.args.value (low g c))) (sym (same-places g c))
    (IsSharded-push inside.shards.items c.args.shard c.args.value (low g c) eq input g.met.T.Eq.laws inside.places.items c.self.invariant (own g c)
    (ap (λ s. list_any (eq c.args.value) s.keys) c.self.view_is ∙ c.requires.new)))

pub returns-clause-pushed : goal.returns-clause-pushed
returns-clause-pushed g c =
    let inside = c.self.inside in
    (λ i. values_in (same-shards g c i) (same-places g c i))
    ∙ values_in-push inside.shards.items c.args.shard c.args.value (low g c) inside.places.items c.self.invariant.held
    ∙ ap (λ s. s.keys ++ c.args.value ∷ []) c.self.view_is

use Rattle.std.proofs.Common.{◌≡◌, List, [], ◌∷◌, ◌++◌, length, get_or, sym, ap, subst, length-append, arith}
use Rattle.search_shards.specs.internal.Places.{values_in, IsSharded}
use Rattle.search_shards.proofs.Shards.{none-more, IsSharded-new}
use Rattle.search_shards.proofs.set.ShardedSet.new.Goals as goal

pub loop-init : goal.loop-init
loop-init g c = record {
  none = λ s. ap (λ shards. get_or shards s []) c.in_ok-made.ensures.items;
  count = ap length c.in_ok-made.ensures.items;
  room = c.in_ok-made.ensures.capacity;
}

pub loop-preserved : goal.loop-preserved
loop-preserved g c =
    let made = c.loop.made.items in
    let new : c.push_reserved.new.self.items ≡ made ++ c.new.result ∷ [] = c.push_reserved.ensures.items in
    let long : length c.push_reserved.new.self.items ≡ length (made ++ c.new.result ∷ []) = ap length new in
    let both = length-append made (c.new.result ∷ []) in
    let inv = c.loop.invariant in record {
      none = λ s. subst (λ (shards : List (List _)). get_or shards s [] ≡ []) (sym new) (none-more made c.new.result inv.none c.new.ensures s);
      count = (let count = inv.count in omega arith);
      room = (let room = inv.room in let same = c.push_reserved.ensures.capacity in omega arith);
    }

pub invariant_of-result : goal.invariant_of-result
invariant_of-result g c =
    let count = c.loop.invariant.count in
    subst (IsSharded g.T.PartialEq.eq g.T.Hash.hash_input c.loop.made.items) (sym c.new-2.ensures.items)
    (IsSharded-new g.T.PartialEq.eq g.T.Hash.hash_input c.loop.made.items (omega arith) c.loop.invariant.none)

pub returns : goal.returns
returns g c = (ap (values_in c.loop.made.items) c.new-2.ensures.items, (let count = c.loop.invariant.count in omega arith))

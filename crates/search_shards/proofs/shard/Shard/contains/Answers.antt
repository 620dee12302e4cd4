use Rattle.std.proofs.Common.{◌≡◌, ℕ, false, Some, drop, slice_get, sym, ap, subst, ◌∙◌}
use Rattle.std.specs.List.{list_any}
use Rattle.search_shards.specs.Sharded.{hash_of}
use Rattle.search_shards.specs.internal.Cells.{IsFound}
use Rattle.search_shards.proofs.Finding.{any-turned, any-waiting}
use Rattle.search_shards.proofs.shard.Shard.contains.Goals as goal

pub returns-else-finds : goal.returns-else-finds
returns-else-finds g c =
    let eq = g.T.PartialEq.eq in
    let inside = c.self.inside in
    let value = c.args.value.now in
    let missed : (index : ℕ) (other : _) → IsFound inside.cells.items (hash_of g.T.Hash.hash_input value) index → slice_get inside.values.items index ≡ Some other → eq value other ≡ false =
    (λ index other at is. c.finds.ensures.is_not c.if-finds.false index other
    (subst (λ cells. IsFound cells (hash_of g.T.Hash.hash_input value) index) (sym c.deref-2.ensures.value) at) (ap (λ values. slice_get values index) c.deref.ensures.value ∙ is)) in
    c.contains.ensures.value
    ∙ ap (list_any (λ other. eq other value)) (c.behind.ensures ∙ ap (drop inside.found) c.deref-else-finds.ensures.value)
    ∙ any-turned eq g.met.T.Eq.laws.symm value (drop inside.found inside.values.items)
    ∙ sym (any-waiting g.T.Hash.hash_input inside.values.items eq g.met.T.Hash.respects_eq inside.cells.items inside.found c.self.invariant value missed)
    ∙ ap (list_any (eq value)) c.self.view_is

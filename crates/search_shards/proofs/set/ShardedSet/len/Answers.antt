use Rattle.std.proofs.Common.{length, sym, ap, ◌∙◌}
use Rattle.search_shards.proofs.Values.{length-values_in}
use Rattle.search_shards.proofs.set.ShardedSet.len.Goals as goal

pub returns-clause-len : goal.returns-clause-len
returns-clause-len g c = let inside = c.self.inside in
    c.len.ensures ∙ inside.places.ok.0 ∙ sym (length-values_in inside.shards.items inside.places.items c.self.invariant.held) ∙ ap (λ s. length s.keys) c.self.view_is

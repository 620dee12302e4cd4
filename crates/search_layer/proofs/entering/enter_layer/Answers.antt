use Rattle.std.proofs.Common.{◌<◌, length, sym, subst}
use Rattle.std.specs.Prelude.{All}
use Rattle.search_layer.proofs.NotFirst.{positions-within}
use Rattle.search_layer.proofs.Thinned.{same-length}
use Rattle.search_layer.proofs.entering.enter_layer.Goals as goal

pub shards_of-requires-after_bounds : goal.shards_of-requires-after_bounds
shards_of-requires-after_bounds g c κs within =
    let eq = g.S.PartialEq.eq in
    let known = c.args.visited.states.keys in
    let firsts = c.args.firsts.now in
    let first = c.requires.first in
    subst (λ (cs : _). All (λ at. at < length cs) firsts) (sym c.as_slice.ensures.value)
    (subst (λ n. All (λ at. at < n) firsts) (sym (same-length eq known first.0 c.args.candidates.items first.1)) (positions-within eq known first.0 firsts first.2))

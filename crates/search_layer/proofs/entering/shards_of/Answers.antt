use Rattle.std.proofs.Common.{ℕ, ap, ◌∙◌}
use Rattle.rayon.proofs.ListFacts.{IfOk-then}
use Rattle.rayon.proofs.ToStd.{slice-AllZip}
use Rattle.search_layer.specs.internal.Shards.{IsShardAt}
use Rattle.search_layer.proofs.entering.shards_of.Goals as goal

pub returns : goal.returns
returns g c =
    let slice = ap (λ it. it.slice.now) c.map.ensures.base ∙ c.par_iter.ensures in
    let found = rw c.map.ensures.f at c.collect.ensures in
    IfOk-then c.collect.result _ _ found (λ v h.
    let chain = h.1 in
    rw h.2 (slice-AllZip chain.0 c.args.firsts.now (chain.1 ∙ slice)
    (λ (at number : ℕ). IsShardAt g.S.Hash.hash_input c.args.states.now.shards c.args.candidates.now at number) h.0 chain.2))

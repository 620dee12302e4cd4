use Rattle.std.proofs.Common.{◌∷◌, [], ◌++◌, map, ap, sym, ◌∙◌, refl}
use Rattle.std.specs.Prelude.{Ok}
use Rattle.std.proofs.lemmas.List.{map-append}
use Rattle.summary.specs.Sums.{IsSemilattice}
use Rattle.search_layer.proofs.StatesShown.{join-one-more}
use Rattle.search_layer.proofs.showing.join_parts.Given.{Over}
use Rattle.search_layer.proofs.showing.join_parts.Goals as goal

semilattice : (g : Over) → IsSemilattice g.U.Summary.joins
semilattice g = (g.met.U.Summary g.world.𝓛 g.world.𝓜 g.world.𝓡 ((λ s x. x), (λ x. x), (λ x. x), λ x. x)).semilattice

pub loop-part-preserved : goal.loop-part-preserved
loop-part-preserved g c =
    let inv = c.loop-part.invariant in
    let shown = c.in_ok-part.field-0 in (
      inv.0 ++ shown ∷ [],
      ap (λ parts. parts ++ c.in-Some.part ∷ []) inv.1 ∙ ap (λ part. map Ok inv.0 ++ part ∷ []) c.in_ok-part.was ∙ sym (map-append Ok inv.0 (shown ∷ [])),
      join-one-more g.U.Summary.joins (semilattice g) c.loop-part.summary shown c.in_ok-summary-2.summary inv.0 shown inv.2 refl c.in_ok-summary-2.ensures,
    )

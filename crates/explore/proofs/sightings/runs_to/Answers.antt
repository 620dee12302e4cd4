use Rattle.std.proofs.Common.{◌++◌, ◌∷◌, [], refl, sym, subst}
use Rattle.std.specs.List.{AllZip}
use Rattle.explore.proofs.Noting.{zip-push}
use Rattle.explore.specs.internal.Noting.{IsRunTo}
use Rattle.explore.proofs.sightings.runs_to.Goals as goal

pub loop-one-preserved : goal.loop-one-preserved
loop-one-preserved g c runs last =
    subst (λ (ss : _). AllZip (IsRunTo runs) ss (c.loop-one.yielded ++ c.in-Some.one ∷ [])) (sym c.in_ok-push.ensures.items)
    (zip-push (IsRunTo runs) c.loop-one.sightings.items c.loop-one.yielded _ c.in-Some.one (c.loop-one.invariant runs last) (refl, c.in_ok-run.ensures runs last))

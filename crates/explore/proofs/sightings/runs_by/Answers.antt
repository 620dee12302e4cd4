use Rattle.std.proofs.Common.{◌++◌, ◌∷◌, [], refl, ap, sym, subst, ◌∙◌}
use Rattle.std.specs.List.{AllZip}
use Rattle.explore.proofs.Noting.{zip-push}
use Rattle.explore.specs.internal.Noting.{IsRunBy}
use Rattle.explore.proofs.sightings.runs_by.Goals as goal

pub loop-one-preserved : goal.loop-one-preserved
loop-one-preserved g c runs last =
    subst (λ (ss : _). AllZip (IsRunBy runs) ss (c.loop-one.yielded ++ c.in-Some.one ∷ [])) (sym c.in_ok-push-2.ensures.items)
    (zip-push (IsRunBy runs) c.loop-one.sightings.items c.loop-one.yielded _ c.in-Some.one (c.loop-one.invariant runs last) (refl, c.in_ok-push.ensures.items ∙ ap (λ xs. xs ++ c.in-Some.one.at.label ∷ []) (c.in_ok-run.ensures runs last)))

use Rattle.std.proofs.Common.{◌++◌, ◌∷◌, [], List, length, refl, subst, sym}
use Rattle.std.proofs.lemmas.Iterator.Adapters.{YieldsList-from_vec}
use Rattle.std.proofs.lemmas.Iterator.Consumers.{YieldsList-turn}
use Rattle.std.proofs.lemmas.Slice.Zip.{all_zipped_more}
use Rattle.std.specs.List.{AllZip}
use Rattle.explore.specs.declared.sightings.Sighting.{Sighting}
use Rattle.search_ordinals.proofs.following.labels_of_sightings.Goals as goal
use Rattle.search_ordinals.specs.Told.{AreLabelsTold, IsTelling}
use Rattle.search_ordinals.specs.internal.Sighted.{IsSightingTold}

pub labels_along-requires-after_bounds : goal.labels_along-requires-after_bounds
labels_along-requires-after_bounds g c κs within =
    let system = c.args.system.now in
    let turn = YieldsList-turn (YieldsList-from_vec {s = c.into_iter-one-iterator.result} c.args.told.items (cc) (cc)) c.loop-one.yielded c.loop-one.one-iterator c.loop-one.yielded_by c.next.result c.next.new.self c.in-Some.one c.in-Some.is c.next.ensures.steps in
    subst (λ (ordinals : List _). IsTelling (g.Y.Located.branch system) (g.Y.System.graph system) ordinals) (sym c.as_slice.ensures.value)
    (subst (λ (one : Sighting _ _). IsTelling (g.Y.Located.branch system) (g.Y.System.graph system) one.run.items) (sym turn.1) (c.requires.telling (length c.loop-one.yielded) c.in-Some.one turn.0))

pub loop-one-preserved : goal.loop-one-preserved
loop-one-preserved g c =
    let system = c.args.system.now in
    let branch = g.Y.Located.branch system in
    let graph = g.Y.System.graph system in
    let told : AreLabelsTold branch graph c.in-Some.one.run.items c.in_ok-labels.labels.items =
    subst (λ (ordinals : List _). AreLabelsTold branch graph ordinals c.in_ok-labels.labels.items) c.as_slice.ensures.value c.in_ok-labels.ensures in
    subst (λ (ss : List _). AllZip (IsSightingTold branch graph) ss (c.loop-one.yielded ++ c.in-Some.one ∷ [])) (sym c.in_ok-push.ensures.items)
    (all_zipped_more (IsSightingTold branch graph) c.loop-one.sightings.items c.loop-one.yielded _ c.in-Some.one c.loop-one.invariant (refl, told))

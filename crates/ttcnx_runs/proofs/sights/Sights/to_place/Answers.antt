use Rattle.std.proofs.Common.{ap, ◌∙◌}
use Rattle.std.specs.Option.{option_map}
use Rattle.std.specs.declared.vec.Vec.{Vec}
use Rattle.explore.specs.declared.sightings.Sighting.{Sighting}
use Rattle.ttcnx_runs.proofs.FirstSights.{find-push}
use Rattle.ttcnx_runs.specs.Aims.{first_of, is_at}
use Rattle.ttcnx_runs.proofs.sights.Sights.to_place.Goals as goal

pub loop-one-preserved : goal.loop-one-preserved
loop-one-preserved c =
    c.first_of-found.ensures
    ∙ ap (λ fits. first_of (option_map (λ (v : Vec _ _). v.items) c.loop-one.found) fits c.in-Some.one.run.items) c.is_at.ensures
    ∙ find-push (λ (s : Sighting _ _). s.run.items) (λ (s : Sighting _ _). is_at c.args.place s.event.place) c.loop-one.yielded c.in-Some.one (option_map (λ (v : Vec _ _). v.items) c.loop-one.found) c.loop-one.invariant

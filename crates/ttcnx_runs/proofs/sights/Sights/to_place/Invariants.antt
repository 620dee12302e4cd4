use Rattle.std.proofs.Common.{◌≡◌}
use Rattle.std.specs.List.{find}
use Rattle.std.specs.Option.{option_map}
use Rattle.explore.specs.declared.sightings.Sighting.{Sighting}
use Rattle.ttcnx_runs.specs.Aims.{is_at}
use Rattle.ttcnx_runs.proofs.sights.Sights.to_place.Given as goal

abbrev pub invariant-loop-one : goal.invariant-loop-one
invariant-loop-one l = option_map (λ run. run.items) l.found ≡ option_map (λ (s : Sighting _ _). s.run.items) (find (λ (s : Sighting _ _). is_at l.place s.event.place) l.yielded)

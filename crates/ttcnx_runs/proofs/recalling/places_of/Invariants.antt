use Rattle.std.proofs.Common.{◌≡◌, map, take}
use Rattle.std.specs.List.{flat_map}
use Rattle.ttcnx_runs.proofs.recalling.places_of.Given as goal
use Rattle.ttcnx_runs.specs.internal.Recalls.{branch_and_place}

abbrev pub invariant-loop-one : goal.invariant-loop-one
invariant-loop-one g l = l.found.items ≡ flat_map (λ one. map branch_and_place one.now.outcomes.items) (take l.one-index l.all)

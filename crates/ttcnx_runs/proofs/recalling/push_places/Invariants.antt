use Rattle.std.proofs.Common.{◌≡◌, ◌++◌, map, take}
use Rattle.ttcnx_runs.proofs.recalling.push_places.Given as goal
use Rattle.ttcnx_runs.specs.internal.Recalls.{branch_and_place}

abbrev pub invariant-loop-outcome : goal.invariant-loop-outcome
invariant-loop-outcome g l = l.found.items ≡ l.initial.found.items ++ map branch_and_place (take l.outcome-index l.outcome-items)

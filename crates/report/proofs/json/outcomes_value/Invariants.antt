use Rattle.std.proofs.Common.{◌≡◌, map, take}
use Rattle.report.specs.Json.{outcome_json}
use Rattle.serde_json.specs.View.{view}
use Rattle.report.proofs.json.outcomes_value.Given as goal

-- the items so far are made
abbrev pub invariant-loop-outcome : goal.invariant-loop-outcome
invariant-loop-outcome l = map view l.values.items ≡ map outcome_json (take l.outcome-index l.outcomes)

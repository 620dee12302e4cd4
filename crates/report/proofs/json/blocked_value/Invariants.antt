use Rattle.std.proofs.Common.{◌≡◌, map, take}
use Rattle.report.specs.Json.{standing_json}
use Rattle.serde_json.specs.View.{view}
use Rattle.report.proofs.json.blocked_value.Given as goal

-- the items so far are made
abbrev pub invariant-loop-standing : goal.invariant-loop-standing
invariant-loop-standing l = map view l.values.items ≡ map standing_json (take l.standing-index l.blocked)

use Rattle.std.proofs.Common.{◌≡◌, map, take}
use Rattle.report.specs.Json.{place_json}
use Rattle.serde_json.specs.View.{view}
use Rattle.report.proofs.json.branches_value.Given as goal

-- the items so far are made
abbrev pub invariant-loop-place : goal.invariant-loop-place
invariant-loop-place l = map view l.places.items ≡ map place_json (take l.place-index l.branches)

use Rattle.std.proofs.Common.{◌≡◌, map, take}
use Rattle.report.specs.Json.{label_json}
use Rattle.serde_json.specs.View.{view}
use Rattle.report.proofs.json.run_value.Given as goal

-- the items so far are made
abbrev pub invariant-loop-label : goal.invariant-loop-label
invariant-loop-label l = map view l.labels.items ≡ map label_json (take l.label-index l.run)

use Rattle.std.proofs.Common.{◌≡◌, drop}
use Rattle.value_types.specs.Outcomes.{Yields}
use Rattle.value_types.specs.Readings.{along}
use Rattle.ttcn_values.proofs.reader.record.along.Given as goal

-- the fields that are left lead on to what all lead to
abbrev pub invariant-loop-name : goal.invariant-loop-name
invariant-loop-name l = along l.definitions (drop l.name-index l.names) (Yields l.value) ≡ along l.definitions l.names (Yields l.fn.value)

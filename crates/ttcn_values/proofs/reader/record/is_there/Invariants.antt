use Rattle.std.proofs.Common.{◌≡◌, drop}
use Rattle.value_types.specs.Readings.{last_presence}
use Rattle.ttcn_values.proofs.reader.record.is_there.Given as goal

-- the fields that are left lead on to what all lead to
abbrev pub invariant-loop-name : goal.invariant-loop-name
invariant-loop-name l = last_presence l.definitions l.last (drop l.name-index l.others) l.value ≡ last_presence l.definitions l.first l.others l.fn.value

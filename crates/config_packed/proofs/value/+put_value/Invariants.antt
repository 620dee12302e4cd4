use Rattle.std.proofs.Common.{◌≡◌, ◌++◌, take}
use Rattle.std.specs.List.{flat_map}
use Rattle.config_packed.proofs.Values.{spell_of_field}
use Rattle.config_packed.proofs.value.+put_value.Given as goal

-- the fields so far are spelled
abbrev pub invariant-loop-field : goal.invariant-loop-field
invariant-loop-field l = l.bytes.items ≡ l.initial.bytes.items ++ flat_map spell_of_field (take l.field-index l.field-items)

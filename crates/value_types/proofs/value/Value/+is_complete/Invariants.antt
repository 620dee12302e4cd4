use Rattle.std.proofs.Common.{◌≡◌, drop, map}
use Rattle.std.specs.List.{list_all}
use Rattle.std.specs.Option.{option_map}
use Rattle.value_types.specs.Values.{has_value, is_complete}
use Rattle.value_types.proofs.value.Value.+is_complete.Given as goal

-- the fields that are left decide
abbrev pub invariant-loop-field : goal.invariant-loop-field
invariant-loop-field l = is_complete l.self ≡ list_all has_value (map (option_map is_complete) (drop l.field-index l.field-items))

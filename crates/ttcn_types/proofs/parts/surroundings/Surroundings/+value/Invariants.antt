use Rattle.std.proofs.Common.{◌≡◌, map}
use Rattle.ttcn_types.specs.internal.Surrounding.{scope_of}
use Rattle.check_survey.specs.Things.{add}
use Rattle.check_rules.specs.Parts.{all_of, field_value_parts, value_parts}
use Rattle.ttcn_types.proofs.Beside.{collecting}
use Rattle.ttcn_types.proofs.parts.surroundings.Surroundings.+value.Given as goal

-- what was collected so far, with the values that are left, is what there was with all of them
abbrev pub invariant-add_values-loop-value : goal.invariant-add_values-loop-value
invariant-add_values-loop-value l =
    collecting (value_parts (scope_of l.self)) l.values l.value-index l.into ≡ add l.fn.into (all_of (map (value_parts (scope_of l.fn.self)) l.fn.values))

-- the same of fields
abbrev pub invariant-add_field_values-loop-field : goal.invariant-add_field_values-loop-field
invariant-add_field_values-loop-field l =
    collecting (field_value_parts (scope_of l.self)) l.fields l.field-index l.into ≡ add l.fn.into (all_of (map (field_value_parts (scope_of l.fn.self)) l.fn.fields))

use Rattle.std.proofs.Common.{◌≡◌, drop, map}
use Rattle.value_types.specs.Matching.{all_fields, specific_value}
use Rattle.value_types.proofs.Sending.{behind}
use Rattle.value_types.proofs.template.+sending.Given as goal

-- the values so far, and what is left, are what all give
abbrev pub invariant-specific_fields-loop-part : goal.invariant-specific_fields-loop-part
invariant-specific_fields-loop-part l = all_fields (map specific_value l.fn.parts) ≡ behind l.fields.items (all_fields (map specific_value (drop l.part-index l.parts)))

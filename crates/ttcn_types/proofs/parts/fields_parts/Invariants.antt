use Rattle.std.proofs.Common.{◌≡◌, map}
use Rattle.check_survey.specs.Things.{tally}
use Rattle.check_rules.specs.Parts.{all_of, part_of_field}
use Rattle.ttcn_types.proofs.Beside.{collecting}
use Rattle.ttcn_types.proofs.parts.fields_parts.Given as goal

-- what was collected so far, with the fields that are left, is what all of them are
abbrev pub invariant-loop-field : goal.invariant-loop-field
invariant-loop-field l =
    collecting (part_of_field l.scope.definitions.now) l.fields l.field-index l.thing ≡ tally (all_of (map (part_of_field l.fn.scope.definitions.now) l.fn.fields))

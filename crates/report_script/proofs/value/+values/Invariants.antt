use Rattle.std.proofs.Common.{◌≡◌, ◌+◌, ◌*◌, ◌++◌, drop}
use Rattle.std.specs.Option.{option_map}
use Rattle.report_script.specs.Values.{fields_given, parts_given}
use Rattle.serde_json.specs.Data.{depth, members_depth}
use Rattle.serde_json.specs.View.{members_view, view}
use Rattle.report_script.proofs.value.+values.Given as goal

-- how deep JSON nests, and which function comes first where it nests as deep
abbrev pub decreases-read_value : goal.decreases-read_value
decreases-read_value l = 4 * depth (view l.json.now)

abbrev pub decreases-read_record : goal.decreases-read_record
decreases-read_record l = 4 * members_depth (members_view l.members.now.entries) + 3

abbrev pub decreases-read_fields : goal.decreases-read_fields
decreases-read_fields l = 4 * members_depth (members_view l.members.now.entries) + 2

abbrev pub decreases-read_field : goal.decreases-read_field
decreases-read_field l = 4 * members_depth (members_view l.members.now.entries) + 1

-- the values so far come before those of the fields that are left
abbrev pub invariant-read_fields-loop-field : goal.invariant-read_fields-loop-field
invariant-read_fields-loop-field l =
    fields_given l.scope.definitions.now (parts_given (members_view l.members.entries)) l.fields
    ≡ option_map (λ vs. l.values.items ++ vs) (fields_given l.scope.definitions.now (parts_given (members_view l.members.entries)) (drop l.field-index l.fields))

use Rattle.std.proofs.Common.{◌≡◌}
use Rattle.check_scope.specs.Names.{fields_at}
use Rattle.report_script.specs.Values.{are_fields, parts_given}
use Rattle.serde_json.specs.View.{members_view}
use Rattle.report_script.proofs.value.are_fields.Given as goal

-- what is left has the same answer
abbrev pub invariant-loop-name : goal.invariant-loop-name
invariant-loop-name l =
    are_fields (parts_given (members_view l.fn.members.entries)) (fields_at l.scope.definitions.now l.at) ≡ are_fields (parts_given (members_view l.name-iterator)) (fields_at l.scope.definitions.now l.at)

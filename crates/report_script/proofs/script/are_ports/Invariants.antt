use Rattle.std.proofs.Common.{◌≡◌}
use Rattle.check_scope.specs.internal.Checking.{view}
use Rattle.report_script.specs.Scripts.{are_ports}
use Rattle.serde_json.specs.View.{members_view}
use Rattle.report_script.proofs.script.are_ports.Given as goal

-- what is left has the same answer
abbrev pub invariant-loop-name : goal.invariant-loop-name
invariant-loop-name l = are_ports (view l.scope).names (members_view l.fn.members.entries) ≡ are_ports (view l.scope).names (members_view l.name-iterator)

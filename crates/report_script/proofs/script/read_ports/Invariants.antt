use Rattle.std.proofs.Common.{◌≡◌, ◌++◌}
use Rattle.std.specs.Option.{option_map}
use Rattle.check_scope.specs.internal.Checking.{view}
use Rattle.report_script.specs.Scripts.{ports_given}
use Rattle.serde_json.specs.View.{members_view}
use Rattle.report_script.proofs.script.read_ports.Given as goal

-- the ports so far come before those that are left
abbrev pub invariant-loop-name : goal.invariant-loop-name
invariant-loop-name l =
    ports_given l.scope.definitions.now (view l.scope).names (members_view l.fn.members.entries)
    ≡ option_map (λ ports. l.ports.items ++ ports) (ports_given l.scope.definitions.now (view l.scope).names (members_view l.name-iterator))

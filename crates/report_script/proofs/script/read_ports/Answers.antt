use Rattle.std.proofs.Common.{◌≡◌, Some, string_bytes, sym, ap, ◌∙◌}
use Rattle.check_scope.specs.internal.Checking.{view}
use Rattle.report_script.specs.Scripts.{port_given, ports_given}
use Rattle.report_script.proofs.Ports.{more-ports}
use Rattle.serde_json.specs.View.{members_view}
use Rattle.serde_json.specs.View.{view as data_of}
use Rattle.report_script.proofs.script.read_ports.Goals as goal

pub loop-name-preserved : goal.loop-name-preserved
loop-name-preserved c =
    let definitions = c.args.scope.now.definitions.now in
    let names = (view c.args.scope.now).names in
    let here : Some c.in-Some-2.messages ≡ port_given definitions names (string_bytes c.in-Some.name.now) (data_of c.in-Some.json.now) =
    sym c.in-Some-2.is ∙ c.in_ok-messages.ensures ∙ ap (λ name. port_given definitions names name (data_of c.in-Some.json.now)) c.as_bytes.ensures.value in
    more-ports definitions names (ports_given definitions names (members_view c.args.members.now.entries)) c.loop-name.name-iterator _ (c.in-Some.name.now, c.in-Some.json.now) c.in_ok-new.field-0 c.in-Some-2.messages c.loop-name.ports.items _
    c.loop-name.invariant c.in-Some.ensures.steps here (c.in_ok-new.ensures ∙ c.as_bytes-in-loop-name.ensures.value) c.in_ok-push.ensures.items

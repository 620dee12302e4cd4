use Rattle.std.proofs.Common.{sym, ap, ◌∙◌}
use Rattle.check_rules.specs.Messages.{port_meant}
use Rattle.check_scope.specs.internal.Checking.{view}
use Rattle.report_script.proofs.Members.{no-port}
use Rattle.report_script.proofs.script.are_ports.Goals as goal

pub returns-then-is_none : goal.returns-then-is_none
returns-then-is_none c =
    let names = (view c.args.scope.now).names in
    sym (c.loop-name.invariant ∙ no-port c.loop-name.name-iterator _ (c.in-Some.name.now, c.in-Some.field-0-1.now) names c.port_meant.result
    c.in-Some.ensures.steps (c.port_meant.ensures ∙ ap port_meant (c.get.ensures ∙ ap names c.as_bytes.ensures.value)) c.if-is_none.ensures)

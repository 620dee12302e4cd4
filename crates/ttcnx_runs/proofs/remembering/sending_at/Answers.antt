use Rattle.std.proofs.Common.{List, subst}
use Rattle.config_parts.specs.declared.component.Component.{Component}
use Rattle.ttcnx_runs.proofs.Making.{if-some, sent-is}
use Rattle.ttcnx_runs.proofs.Parts.{if-ok}
use Rattle.ttcnx_runs.proofs.remembering.sending_at.Goals as goal
use Rattle.ttcnx_runs.specs.internal.Makes.{IsSending}

pub returns-in-Reaches : goal.returns-in-Reaches
returns-in-Reaches c =
    if-ok c.sending_to.result _ _ c.sending_to.ensures (λ found told.
    if-some found _ _ told (λ sending is going component here.
    sent-is c.args.machine.now c.args.config.now c.in-Going.going c.args.at c.args.label.now c.in_ok-sent.field-0 c.in-Some.sent c.in-Reaches.port c.in-Going.is c.in_ok-sent.ensures c.in-Some.is c.in-Reaches.is sending
    (subst (λ (cs : List Component). IsSending cs c.args.at c.in-Some.sent.value c.in-Reaches.port sending) c.as_slice.ensures is) going component here))

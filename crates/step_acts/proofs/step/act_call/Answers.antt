use Rattle.std.proofs.Common.{Option, subst, sym}
use Rattle.step_acts.proofs.Choosing.{no-choice}
use Rattle.step_forms.proofs.Forms.{whole-asks}
use Rattle.step_acts.proofs.step.act_call.Goals as goal
use Rattle.step_forms.specs.Asks.{Asks}
use Rattle.step_forms.specs.internal.Stands.{legend_of, site_of, stand_by}
use Rattle.semantics.specs.Events.{Choice}
use Rattle.semantics.specs.Statements as said
use Rattle.ttcn_graph.proofs.Forms.{does-Call}
use Rattle.ttcn_syntax.specs.declared.tree.statement.Action.TheOpen.{Action-F}

pub returns-in-Some-clause-asks : goal.returns-in-Some-clause-asks
returns-in-Some-clause-asks c =
    let s = c.args.stand.now in
    let stand = stand_by s in
    let call = c.args.call.now in
    whole-asks (legend_of s) stand (site_of s) s.statement.now (Action-F.«Action::Call» call) c.act_altstep.result (does-Call s.statement.now call c.requires.does)
    (c.act_altstep.ensures.asks (said.call_function stand (site_of s) call stand.own stand.rest))

pub returns-in-None-clause-asks : goal.returns-in-None-clause-asks
returns-in-None-clause-asks c =
    let s = c.args.stand.now in
    let stand = stand_by s in
    let call = c.args.call.now in
    let does = does-Call s.statement.now call c.requires.does in
    whole-asks (legend_of s) stand (site_of s) s.statement.now (Action-F.«Action::Call» call) c.act_function.result does
    (subst (λ (o : Option Choice). Asks (legend_of s) (said.act_alt_or (said.call_function stand (site_of s) call stand.own stand.rest) stand (site_of s) s.statement.now o) c.act_function.result)
    (sym (no-choice s call does (sym c.in-None.ensures))) c.act_function.ensures.asks)

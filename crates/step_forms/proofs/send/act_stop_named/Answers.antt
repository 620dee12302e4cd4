use Rattle.std.proofs.Common.{None, ap, sym, ◌∙◌}
use Rattle.step_forms.proofs.Asking.{asked}
use Rattle.step_forms.proofs.send.act_stop_named.Goals as goal
use Rattle.step_forms.specs.internal.Stands.{legend_of, site_of, stand_by}
use Rattle.semantics.specs.Sites.{is_own}
use Rattle.semantics.specs.Statements as said
use Rattle.semantics.specs.Storing.{set_timer}
use Rattle.value_types.specs.declared.frame.TimerState.TheVariants as timer

pub act_timer_state-requires-clause-own : goal.act_timer_state-requires-clause-own
act_timer_state-requires-clause-own c =
    let s = c.args.stand.now in
    c.requires.own ∙ ap (λ x. is_own ((s.snapshot.now).test.now).definitions (site_of s) (said.name_in x)) c.requires.named

pub returns-in-Some-clause-asks : goal.returns-in-Some-clause-asks
returns-in-Some-clause-asks c =
    let s = c.args.stand.now in
    let stand = stand_by s in
    let site = site_of s in
    asked (legend_of s) (said.act_stop_of stand site c.args.component.now) (said.Requests said.Continues (set_timer stand.test site c.args.reference.now.name timer.Inactive (said.done stand))) c.act_timer_state.result
    (ap (said.stop_meant stand site c.args.component.now) (sym c.in-Some.ensures) ∙ ap (λ x. said.Requests said.Continues (set_timer stand.test site (said.name_in x) timer.Inactive (said.done stand))) c.requires.named)
    c.act_timer_state.ensures.asks

pub returns-in-None-clause-asks : goal.returns-in-None-clause-asks
returns-in-None-clause-asks c =
    let s = c.args.stand.now in
    let stand = stand_by s in
    let site = site_of s in
    asked (legend_of s) (said.act_stop_of stand site c.args.component.now) (said.stop_meant stand site c.args.component.now None) c.act_stop_component.result
    (ap (said.stop_meant stand site c.args.component.now) (sym c.in-None.ensures)) c.act_stop_component.ensures.asks

use Rattle.std.proofs.Common.{List, [], subst, sym, ◌∙◌}
use Rattle.step_forms.proofs.Conditions.{loop-asks}
use Rattle.step_forms.proofs.Forms.{does-Connect, does-Map, does-StartComponent, whole-asks}
use Rattle.step_forms.proofs.Standing.{first-known, known-there}
use Rattle.step_acts.proofs.step.act_whole.Goals as goal
use Rattle.step_forms.specs.Asks.{Asks}
use Rattle.step_forms.specs.internal.Stands.{legend_of, site_of, stand_by}
use Rattle.semantics.specs.Items.{Whole}
use Rattle.semantics.specs.Statements as said
use Rattle.ttcn_graph.proofs.Forms.{does-Assign, does-If, does-While}
use Rattle.ttcn_syntax.specs.declared.tree.statement.Action.TheOpen.{Action-F}
use Rattle.ttcn_syntax.specs.declared.tree.statement.Conditional.{Conditional}

pub act_assign-requires-clause-known : goal.act_assign-requires-clause-known
act_assign-requires-clause-known c =
    let s = c.args.stand.now in
    let a = c.in-Assign.assignment in
    first-known ((s.snapshot.now).test.now).names a.target.name [] (known-there s Whole (Action-F.Assign a) c.requires (does-Assign s.statement.now a (sym c.get.ensures ∙ c.in-Assign.is)))

pub returns-in-If-clause-asks : goal.returns-in-If-clause-asks
returns-in-If-clause-asks c =
    let s = c.args.stand.now in
    let st = s.statement.now in
    let last = c.in-If.last in
    whole-asks (legend_of s) (stand_by s) (site_of s) st (Action-F.If c.in-If.conditionals last) c.act_if.result (does-If st c.in-If.conditionals last (sym c.get.ensures ∙ c.in-If.is))
    (subst (λ (cs : List Conditional). Asks (legend_of s) (said.act_if (stand_by s) (site_of s) st 0 cs last) c.act_if.result) c.as_slice-in-If.ensures c.act_if.ensures.asks)

pub returns-in-While-clause-asks : goal.returns-in-While-clause-asks
returns-in-While-clause-asks c =
    let s = c.args.stand.now in
    loop-asks s c.in-While.block c.as_slice-in-While.result.now c.in-While.condition c.act_loop.result c.as_slice-in-While.ensures c.act_loop.ensures.asks
    c.requires (does-While s.statement.now c.in-While.condition c.in-While.block (sym c.get.ensures ∙ c.in-While.is))

pub returns-in-Connect-clause-asks : goal.returns-in-Connect-clause-asks
returns-in-Connect-clause-asks c =
    let s = c.args.stand.now in
    let one = c.in-Connect.one in
    let other = c.in-Connect.other in
    whole-asks (legend_of s) (stand_by s) (site_of s) s.statement.now (Action-F.Connect one other) c.act_connecting.result (does-Connect s.statement.now one other (sym c.get.ensures ∙ c.in-Connect.is)) c.act_connecting.ensures.asks

pub returns-in-Map-clause-asks : goal.returns-in-Map-clause-asks
returns-in-Map-clause-asks c =
    let s = c.args.stand.now in
    let m = c.in-Map.mapping in
    whole-asks (legend_of s) (stand_by s) (site_of s) s.statement.now (Action-F.Map m) c.act_mapping.result (does-Map s.statement.now m (sym c.get.ensures ∙ c.in-Map.is)) c.act_mapping.ensures.asks

pub returns-in-StartComponent-clause-asks : goal.returns-in-StartComponent-clause-asks
returns-in-StartComponent-clause-asks c =
    let s = c.args.stand.now in
    let component = c.in-StartComponent.component in
    let call = c.in-StartComponent.call in
    whole-asks (legend_of s) (stand_by s) (site_of s) s.statement.now (Action-F.StartComponent component call) c.act_start.result (does-StartComponent s.statement.now component call (sym c.get.ensures ∙ c.in-StartComponent.is)) c.act_start.ensures.asks

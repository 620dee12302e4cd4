use Rattle.std.proofs.Common.{List, subst, sym, ◌∙◌}
use Rattle.step_acts.proofs.Parts.{from-asks}
use Rattle.step_acts.proofs.step.act_from.Goals as goal
use Rattle.step_forms.specs.Asks.{Asks}
use Rattle.step_forms.specs.internal.Stands.{legend_of, site_of, stand_by}
use Rattle.semantics.specs.Statements as said
use Rattle.ttcn_graph.proofs.Forms.{does-If}
use Rattle.ttcn_syntax.specs.declared.tree.statement.Action.TheOpen.{Action-F}
use Rattle.ttcn_syntax.specs.declared.tree.statement.Conditional.{Conditional}

pub returns-in-If-clause-asks : goal.returns-in-If-clause-asks
returns-in-If-clause-asks c =
    let s = c.args.stand.now in
    let st = s.statement.now in
    from-asks s c.act_if.result c.args.place (Action-F.If c.in-If.conditionals c.in-If.last) (does-If st c.in-If.conditionals c.in-If.last (sym c.get.ensures ∙ c.in-If.is))
    (subst (λ (cs : List Conditional). Asks (legend_of s) (said.act_if (stand_by s) (site_of s) st c.args.place cs c.in-If.last) c.act_if.result) c.as_slice.ensures c.act_if.ensures.asks)

use Rattle.std.proofs.Common.{subst}
use Rattle.step_forms.proofs.assign.act_assignment.Goals as goal
use Rattle.step_forms.specs.Asks.{Asks}
use Rattle.step_forms.specs.internal.Stands.{legend_of, site_of, stand_by}
use Rattle.semantics.specs.Configurations.{Data}
use Rattle.semantics.specs.Statements as said
use Rattle.graph_items.specs.Standing.{target_of}
use Rattle.ttcn_syntax.specs.declared.tree.value.Rhs.{Rhs}

pub returns-clause-asks : goal.returns-clause-asks
returns-clause-asks c =
    let s = c.args.stand.now in
    let to = c.args.goal.now in
    subst (λ (right : Rhs). Asks (legend_of s) (said.assign (stand_by s) (site_of s) (target_of to.target) to.wanted (said.done (stand_by s)) right) c.assign.result) c.get.ensures
    (subst (λ (d : Data). Asks (legend_of s) (said.assign (stand_by s) (site_of s) (target_of to.target) to.wanted d c.get.result.now) c.assign.result) c.in_ok-own.ensures.own c.assign.ensures.asks)

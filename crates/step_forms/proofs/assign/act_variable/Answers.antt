use Rattle.std.proofs.Common.{Option, ap, subst, sym, true, ◌∙◌}
use Rattle.step_forms.proofs.assign.act_variable.Goals as goal
use Rattle.step_forms.specs.Asks.{Asks}
use Rattle.step_forms.specs.internal.Stands.{legend_of, site_of, stand_by}
use Rattle.semantics.specs.Configurations.{Data}
use Rattle.semantics.specs.Items.{Target}
use Rattle.semantics.specs.Statements as said
use Rattle.semantics.specs.Storing.{forget, in_frame}
use Rattle.graph_items.specs.Standing.{target_of}
use Rattle.ttcn_syntax.specs.declared.tree.value.Rhs.{Rhs}

pub returns-in-Some-clause-asks : goal.returns-in-Some-clause-asks
returns-in-Some-clause-asks c =
    let s = c.args.stand.now in
    let stand = stand_by s in
    let site = site_of s in
    let name = (c.args.variable.now).name in
    subst (λ (v : Option Rhs). Asks (legend_of s) (said.act_initial stand site c.args.of name v) c.assign.result) (sym c.in-Some.is)
    (subst (λ (t : Target). Asks (legend_of s) (said.assign stand site t c.args.of (said.declared stand (forget name)) c.in-Some.right) c.assign.result) c.declared_target-target.ensures
    (subst (λ (d : Data). Asks (legend_of s) (said.assign stand site (target_of c.declared_target-target.result) c.args.of d c.in-Some.right) c.assign.result)
    (c.in_ok-own.ensures.changed ∙ ap (in_frame true (forget name)) c.in_ok-done.ensures.own) c.assign.ensures.asks))

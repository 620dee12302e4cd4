use Rattle.std.proofs.Common.{subst, sym, ◌∙◌}
use Rattle.step_forms.proofs.Standing.{one-goal}
use Rattle.step_acts.proofs.step.act_assign.Goals as goal
use Rattle.step_forms.specs.Asks.{Asks}
use Rattle.step_forms.specs.internal.Stands.{legend_of, site_of, stand_by}
use Rattle.semantics.specs.Statements as said
use Rattle.graph_sites.specs.Facts.{Goal, goal_at, goal_by}

pub returns-clause-asks : goal.returns-clause-asks
returns-clause-asks c =
    let s = c.args.stand.now in
    let a = c.args.assignment.now in
    let stand = stand_by s in
    let P : Goal → Type 0 = λ g. Asks (legend_of s) (said.assign stand (site_of s) g.target g.wanted (said.done stand) a.value) c.act_assignment.result in
    subst P (one-goal (goal_by c.goal.result.now) (goal_at ((s.snapshot.now).test.now).definitions (site_of s) a.target) (sym c.goal.ensures ∙ s.known ∙ c.requires.stores)) c.act_assignment.ensures.asks

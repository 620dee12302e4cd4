use Rattle.step_forms.proofs.Forms.{whole-asks}
use Rattle.step_forms.proofs.Standing.{known-there}
use Rattle.step_acts.proofs.step.act_alt.Goals as goal
use Rattle.step_forms.specs.internal.Stands.{legend_of, site_of, stand_by}
use Rattle.semantics.specs.Items.{Whole}
use Rattle.semantics.specs.Statements as said
use Rattle.ttcn_graph.proofs.Forms.{does-Alt}
use Rattle.ttcn_syntax.specs.declared.tree.statement.Action.TheOpen.{Action-F}
use Rattle.value_types.specs.Outcomes.{Unmet}

pub choose_alt-chosen-requires-clause-named : goal.choose_alt-chosen-requires-clause-named
choose_alt-chosen-requires-clause-named c =
    let s = c.args.stand.now in
    known-there s Whole (Action-F.Alt c.args.branches.now) c.requires.whole (does-Alt s.statement.now c.args.branches.now c.requires.does)

pub returns-clause-asks : goal.returns-clause-asks
returns-clause-asks c =
    let s = c.args.stand.now in
    whole-asks (legend_of s) (stand_by s) (site_of s) s.statement.now (Action-F.Alt c.args.branches.now) c.act_choice.result (does-Alt s.statement.now c.args.branches.now c.requires.does)
    (c.act_choice.ensures.asks (said.Errs Unmet))

use Rattle.step_forms.proofs.Standing.{known-there}
use Rattle.step_acts.proofs.choice.chosen_at_alt.Goals as goal
use Rattle.semantics.specs.Items.{Whole}
use Rattle.ttcn_graph.proofs.Forms.{does-Alt}
use Rattle.ttcn_syntax.specs.declared.tree.statement.Action.TheOpen.{Action-F}

pub choose_alt-requires-clause-named : goal.choose_alt-requires-clause-named
choose_alt-requires-clause-named c =
    let s = c.args.stand.now in
    known-there s Whole (Action-F.Alt c.args.branches.now) c.requires.whole (does-Alt s.statement.now c.args.branches.now c.requires.does)

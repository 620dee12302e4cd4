use Rattle.step_forms.proofs.Forms.{does-StopOf}
use Rattle.step_forms.proofs.Standing.{facts-kept, known-there}
use Rattle.step_acts.proofs.step.act_stopping.Goals as goal
use Rattle.step_forms.specs.internal.Stands.{site_of}
use Rattle.semantics.specs.Items.{Whole}
use Rattle.semantics.specs.Sites.{is_own}
use Rattle.semantics.specs.Statements.{name_in}
use Rattle.ttcn_syntax.specs.declared.tree.statement.Action.TheOpen.{Action-F}

pub act_stop_of-requires-clause-known : goal.act_stop_of-requires-clause-known
act_stop_of-requires-clause-known c =
    let s = c.args.stand.now in
    known-there s Whole (Action-F.StopOf c.args.component.now) c.requires.whole (does-StopOf s.statement.now c.args.component.now c.requires.does)

pub act_stop_of-requires-clause-own : goal.act_stop_of-requires-clause-own
act_stop_of-requires-clause-own c =
    let s = c.args.stand.now in
    c.is_own.ensures (is_own ((s.snapshot.now).test.now).definitions (site_of s) (name_in c.args.component.now))
    (facts-kept s Whole (Action-F.StopOf c.args.component.now) c.requires.whole (does-StopOf s.statement.now c.args.component.now c.requires.does))

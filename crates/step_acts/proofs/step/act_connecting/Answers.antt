use Rattle.std.proofs.Common.{[], ◌∷◌}
use Rattle.step_forms.proofs.Forms.{does-Connect}
use Rattle.step_forms.proofs.Standing.{first-known, known-there, second-known}
use Rattle.step_acts.proofs.step.act_connecting.Goals as goal
use Rattle.semantics.specs.Items.{Whole}
use Rattle.ttcn_syntax.specs.declared.tree.statement.Action.TheOpen.{Action-F}

pub act_connect-requires-clause-one : goal.act_connect-requires-clause-one
act_connect-requires-clause-one c =
    let one = c.args.one.now in
    let other = c.args.other.now in
    let s = c.args.stand.now in
    first-known ((s.snapshot.now).test.now).names one.port (other.port ∷ []) (known-there s Whole (Action-F.Connect one other) c.requires.whole (does-Connect c.args.stand.now.statement.now c.args.one.now c.args.other.now c.requires.does))

pub act_connect-requires-clause-other : goal.act_connect-requires-clause-other
act_connect-requires-clause-other c =
    let one = c.args.one.now in
    let other = c.args.other.now in
    let s = c.args.stand.now in
    second-known ((s.snapshot.now).test.now).names one.port other.port [] (known-there s Whole (Action-F.Connect one other) c.requires.whole (does-Connect c.args.stand.now.statement.now c.args.one.now c.args.other.now c.requires.does))

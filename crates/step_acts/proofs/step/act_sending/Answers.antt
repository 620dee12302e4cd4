use Rattle.std.proofs.Common.{[]}
use Rattle.step_forms.proofs.Forms.{does-Send}
use Rattle.step_forms.proofs.Standing.{facts-kept, first-known, known-there}
use Rattle.step_acts.proofs.step.act_sending.Goals as goal
use Rattle.step_forms.specs.internal.Stands.{site_of}
use Rattle.semantics.specs.Items.{Whole}
use Rattle.semantics.specs.Sites.{scope_at}
use Rattle.semantics.specs.Statements as said
use Rattle.ttcn_syntax.specs.declared.tree.statement.Action.TheOpen.{Action-F}

pub act_send-requires-clause-known : goal.act_send-requires-clause-known
act_send-requires-clause-known c =
    let s = c.args.stand.now in
    let send = c.args.send.now in
    first-known ((s.snapshot.now).test.now).names send.port [] (known-there s Whole (Action-F.Send send) c.requires.whole (does-Send s.statement.now send c.requires.does))

pub act_send-requires-clause-of : goal.act_send-requires-clause-of
act_send-requires-clause-of c =
    let s = c.args.stand.now in
    let send = c.args.send.now in
    c.sent_type.ensures (said.sent_type (scope_at ((s.snapshot.now).test.now).definitions (site_of s)) send) (facts-kept s Whole (Action-F.Send send) c.requires.whole (does-Send s.statement.now send c.requires.does))

use Rattle.std.proofs.Common.{[], sym, ◌∙◌}
use Rattle.step_acts.proofs.Parts.{step-asks}
use Rattle.step_forms.proofs.Standing.{first-known, known-there}
use Rattle.step_acts.proofs.step.act_for_step.Goals as goal
use Rattle.semantics.specs.Items.{Last}
use Rattle.ttcn_graph.proofs.Forms.{does-For}
use Rattle.ttcn_syntax.specs.declared.tree.statement.Action.TheOpen.{Action-F}

pub act_assign-requires-clause-known : goal.act_assign-requires-clause-known
act_assign-requires-clause-known c =
    let s = c.args.stand.now in
    let found = c.in-For in
    first-known ((s.snapshot.now).test.now).names found.step.target.name []
    (known-there s Last (Action-F.For found.field-0 found.field-1 found.step found.field-3) c.requires
    (does-For s.statement.now found.field-0 found.field-1 found.step found.field-3 (sym c.get.ensures ∙ found.is)))

pub returns-in-For-clause-asks : goal.returns-in-For-clause-asks
returns-in-For-clause-asks c =
    let s = c.args.stand.now in
    let found = c.in-For in
    step-asks s c.act_assign.result (Action-F.For found.field-0 found.field-1 found.step found.field-3)
    (does-For s.statement.now found.field-0 found.field-1 found.step found.field-3 (sym c.get.ensures ∙ found.is)) c.act_assign.ensures.asks

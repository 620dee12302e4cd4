use Rattle.std.proofs.Common.{ap, [], sym, ◌∙◌}
use Rattle.step_forms.proofs.Standing.{first-known, known-there}
use Rattle.step_acts.proofs.step.act_for_start.Goals as goal
use Rattle.semantics.specs.Items.{Start}
use Rattle.ttcn_graph.proofs.Forms.{does-For}
use Rattle.ttcn_syntax.specs.declared.tree.statement.Action.TheOpen.{Action-F}
use Rattle.ttcn_syntax.specs.declared.tree.statement.Action.TheVariants as form
use Rattle.ttcn_syntax.specs.declared.tree.statement.ForStart.TheVariants as for_start

pub act_assign-requires-clause-known : goal.act_assign-requires-clause-known
act_assign-requires-clause-known c =
    let s = c.args.stand.now in
    let found = c.in-For in
    let a = c.in-Assign.assignment in
    let start = for_start.Assign a in
    first-known ((s.snapshot.now).test.now).names a.target.name []
    (known-there s Start (Action-F.For start found.field-1 found.field-2 found.field-3) c.requires
    (does-For s.statement.now start found.field-1 found.field-2 found.field-3 (sym c.get.ensures ∙ found.is ∙ ap (λ first. form.For first found.field-1 found.field-2 found.field-3) c.in-Assign.is)))

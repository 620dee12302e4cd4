use Rattle.std.proofs.Common.{[], subst}
use Rattle.step_forms.proofs.Standing.{first-known}
use Rattle.step_forms.proofs.send.act_stop_of.Goals as goal
use Rattle.step_snapshot.specs.Slots.{NoneIsMissing}
use Rattle.graph_names.specs.Known.{names_of_component}
use Rattle.ttcn_syntax.specs.declared.tree.expression.ComponentRef.{ComponentRef}

pub act_stop_named-requires-clause-known : goal.act_stop_named-requires-clause-known
act_stop_named-requires-clause-known c =
    let names = ((c.args.stand.now).snapshot.now.test.now).names in
    first-known names c.in-Named.reference.name [] (subst (λ (x : ComponentRef). NoneIsMissing names (names_of_component x)) c.in-Named.is c.requires.known)

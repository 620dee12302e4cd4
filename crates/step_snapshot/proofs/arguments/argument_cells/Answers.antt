use Rattle.std.proofs.Common.{List, ap, map, subst, sym, ◌∙◌}
use Rattle.ttcn_syntax.specs.declared.tree.definition.Parameter.{Parameter}
use Rattle.check_rules.specs.Calls.{parameters_of}
use Rattle.step_snapshot.proofs.arguments.argument_cells.Goals as goal
use Rattle.step_snapshot.specs.Slots.{NoneIsMissing}

pub with_arguments-requires : goal.with_arguments-requires
with_arguments-requires c =
    let P : List Parameter → Type 0 = λ ps. NoneIsMissing c.args.test.now.names (map (λ parameter. parameter.name) ps) in
    subst P (sym (c.parameters_of-parameters.ensures ∙ ap parameters_of c.kind.ensures)) c.requires

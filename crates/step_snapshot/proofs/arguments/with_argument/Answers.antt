use Rattle.std.proofs.Common.{◌≡◌, Bor, Option, length, ap, sym, ◌∙◌}
use Rattle.std.specs.Option.{option_map}
use Rattle.ttcn_syntax.specs.declared.tree.definition.Parameter.{Parameter}
use Rattle.semantics.specs.Snapshots.{view_of_arguments}
use Rattle.step_snapshot.proofs.Argued.{argument-by, only-one}
use Rattle.step_snapshot.specs.internal.Arguments.{with_argument}
use Rattle.step_snapshot.proofs.arguments.with_argument.Goals as goal
use Rattle.step_snapshot.specs.Tests.{legend_by}
use Rattle.config_parts.proofs.Within.{declare-keeps}
use Rattle.config_parts.specs.Views.{HasSlotsWithin, view_by}
use Rattle.config_parts.specs.declared.frame.Cells.{Cells}
use Rattle.config_parts.specs.internal.Stored.{declare}

pub returns-clause-within : goal.returns-clause-within
returns-clause-within c within =
    let names = c.args.test.now.names in
    only-one c.declare.result (declare c.slot_of.result c.args.value c.args.cells) (HasSlotsWithin (length names)) c.declare.ensures
    (declare-keeps (length names) c.slot_of.result c.args.value c.slot_of.ensures.within c.args.cells within)

pub returns-clause-said : goal.returns-clause-said
returns-clause-said c values same =
    let test = c.args.test.now in
    let legend = legend_by test in
    let name = c.in-Some.parameter.now.name in
    let P : Cells → Type 0 = λ more. view_by legend more ≡ view_of_arguments (with_argument (option_map (λ parameter. parameter.now) c.args.parameter) c.args.value values) in
    only-one c.declare.result (declare c.slot_of.result c.args.value c.args.cells) P c.declare.ensures
    (argument-by legend (c.names_make_legends.ensures.legend test.graphs.lists test.names c.are_in_order.ensures) c.slot_of.result name c.args.value c.args.cells values c.slot_of.ensures.named same
    ∙ ap (λ (p : Option (Bor Parameter)). view_of_arguments (with_argument (option_map (λ parameter. parameter.now) p) c.args.value values)) (sym c.in-Some.is))

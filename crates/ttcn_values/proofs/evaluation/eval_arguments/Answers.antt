use Rattle.std.proofs.Common.{◌≡◌, Err, Global, Vec, ap, subst, sym, ◌∙◌}
use Rattle.value_types.proofs.Faults.{given-by, handed-on}
use Rattle.value_types.specs.Frames.{reading}
use Rattle.value_types.specs.Outcomes.{GivesBy, Yields}
use Rattle.value_types.specs.Templates.{arguments}
use Rattle.value_types.specs.declared.value.Value.{Value}
use Rattle.ttcn_values.proofs.evaluation.eval_arguments.Goals as goal

pub returns-in_err-values : goal.returns-in_err-values
returns-in_err-values c =
    handed-on (arguments (reading c.args.frame.now) c.args.parameters.now c.args.given.now) (arguments (reading c.args.frame.now) c.args.parameters.now c.args.given.now)
    c.in_err-values.field-0.0 c.from_residual.result c.from_residual.ensures.1
    (given-by (λ (values : Vec Value Global). values.items) (arguments (reading c.args.frame.now) c.args.parameters.now c.args.given.now) c.in_err-values.field-0.0
    (subst (λ r. GivesBy (λ (values : Vec Value Global). values.items) (arguments r c.args.parameters.now c.args.given.now) (Err c.in_err-values.field-0.0)) c.of.ensures.reads c.in_err-values.ensures))
    (λ why none. none)

pub returns : goal.returns
returns c =
    subst (λ r. arguments r c.args.parameters.now c.args.given.now ≡ Yields c.in_ok-values.values.items) c.of.ensures.reads c.in_ok-values.ensures
    ∙ ap Yields (sym c.from_vec.ensures)

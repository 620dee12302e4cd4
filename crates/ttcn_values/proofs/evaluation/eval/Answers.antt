use Rattle.std.proofs.Common.{subst}
use Rattle.value_types.specs.Evaluation.{value_of}
use Rattle.value_types.specs.Outcomes.{Gives}
use Rattle.ttcn_values.proofs.evaluation.eval.Goals as goal

pub returns : goal.returns
returns c = subst (λ r. Gives (value_of c.args.expr.now r) c.evaluate.result) c.of.ensures.reads c.evaluate.ensures

use Rattle.std.proofs.Common.{subst}
use Rattle.value_types.specs.Literals.{value_wanted}
use Rattle.value_types.specs.Outcomes.{Gives}
use Rattle.ttcn_values.proofs.evaluation.eval_value.Goals as goal

pub returns : goal.returns
returns c = subst (λ r. Gives (value_wanted c.args.value.now r c.args.wanted) c.value.result) c.of.ensures.reads c.value.ensures

use Rattle.std.proofs.Common.{subst}
use Rattle.value_types.specs.Outcomes.{Gives}
use Rattle.value_types.specs.Readings.{referred}
use Rattle.ttcn_values.proofs.evaluation.eval_reference.Goals as goal

pub returns : goal.returns
returns c = subst (λ r. Gives (referred r c.args.reference.now) c.read.result) c.of.ensures.reads c.read.ensures

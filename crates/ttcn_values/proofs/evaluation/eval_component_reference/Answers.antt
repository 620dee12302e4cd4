use Rattle.std.proofs.Common.{subst}
use Rattle.value_types.specs.Outcomes.{Gives}
use Rattle.value_types.specs.Readings.{component_at}
use Rattle.ttcn_values.proofs.evaluation.eval_component_reference.Goals as goal

pub returns : goal.returns
returns c = subst (λ r. Gives (component_at r c.args.component.now) c.component.result) c.of.ensures.reads c.component.ensures

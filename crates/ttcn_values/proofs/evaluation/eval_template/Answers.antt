use Rattle.std.proofs.Common.{subst}
use Rattle.value_types.specs.Outcomes.{Gives}
use Rattle.value_types.specs.Templates.{template_wanted}
use Rattle.ttcn_values.proofs.evaluation.eval_template.Goals as goal

pub returns : goal.returns
returns c = subst (λ r. Gives (template_wanted c.args.template.now r c.args.wanted) c.template.result) c.of.ensures.reads c.template.ensures

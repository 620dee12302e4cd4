use Rattle.laws_types.proofs.Steps.{asked-act-fits, next-fits, step-fits}
use Rattle.laws_types.proofs.steps_keep_types.Goals as goal

pub returns-clause-asked : goal.returns-clause-asked
returns-clause-asked c = asked-act-fits

pub returns-clause-met : goal.returns-clause-met
returns-clause-met c = step-fits

pub returns-clause-next : goal.returns-clause-next
returns-clause-next c = next-fits

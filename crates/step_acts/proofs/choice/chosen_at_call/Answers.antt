use Rattle.step_acts.proofs.choice.chosen_at_call.Goals as goal
use Rattle.step_forms.specs.internal.Stands.{site_of}

pub returns-clause-chosen : goal.returns-clause-chosen
returns-clause-chosen c = c.choose_call.ensures.chosen (site_of c.args.stand.now) (c.args.stand.now).site

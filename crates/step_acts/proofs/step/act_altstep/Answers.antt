use Rattle.step_acts.proofs.step.act_altstep.Goals as goal
use Rattle.step_forms.specs.internal.Stands.{site_of}

pub act_choice-requires-clause-chosen : goal.act_choice-requires-clause-chosen
act_choice-requires-clause-chosen c = c.choose_call-chosen.ensures.chosen (site_of c.args.stand.now) (c.args.stand.now).site

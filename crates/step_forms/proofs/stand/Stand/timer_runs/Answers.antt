use Rattle.std.proofs.Common.{ap, ◌∙◌}
use Rattle.step_forms.proofs.stand.Stand.timer_runs.Goals as goal
use Rattle.value_types.specs.Readings.{timer_at}

pub returns : goal.returns
returns c = c.timer_runs.ensures ∙ ap (λ r. timer_at r c.args.reference.now) c.reads.ensures

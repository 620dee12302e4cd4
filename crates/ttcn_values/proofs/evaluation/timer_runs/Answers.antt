use Rattle.std.proofs.Common.{◌≡◌, subst}
use Rattle.value_types.specs.Readings.{timer_at}
use Rattle.ttcn_values.proofs.evaluation.timer_runs.Goals as goal

pub returns : goal.returns
returns c = subst (λ r. c.timer.result ≡ timer_at r c.args.component.now) c.of.ensures.reads c.timer.ensures

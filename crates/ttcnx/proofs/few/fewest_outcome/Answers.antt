use Rattle.std.proofs.Common.{refl, subst}
use Rattle.ttcnx.proofs.few.fewest_outcome.Goals as goal
use Rattle.ttcnx.specs.Few.{fewest}
use Rattle.ttcnx_bounds.specs.Fewest.{IsFewest}

pub returns-in-Some-clause-fewest : goal.returns-in-Some-clause-fewest
returns-in-Some-clause-fewest g c =
    fewest refl (subst (IsFewest c.args.machine.now.test c.args.patient c.args.plan.now.steps c.args.outcome.verdict) c.in-Some.is c.in_ok-fewest.ensures.fewest)

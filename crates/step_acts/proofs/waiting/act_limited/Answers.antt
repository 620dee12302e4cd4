use Rattle.std.proofs.Common.{ap, refl}
use Rattle.step_forms.proofs.Asking.{acting-fails}
use Rattle.step_acts.proofs.waiting.act_limited.Goals as goal
use Rattle.step_acts.specs.internal.Takings.{limited}
use Rattle.semantics.specs.Statements as said
use Rattle.step_snapshot.specs.Tests.{extent_of, legend_by}
use Rattle.config_parts.specs.Legend.{data_by}

pub returns-in_err-own-clause-asks : goal.returns-in_err-own-clause-asks
returns-in_err-own-clause-asks c =
    let legend = legend_by c.args.test.now in
    let part = limited (data_by legend c.args.own) in
    acting-fails legend (data_by legend) (said.Requests said.Continues) part part c.in_err-own.field-0.0 c.from_residual.result refl (c.in_err-own.ensures.limited legend) c.from_residual.ensures.1

pub returns-clause-asks : goal.returns-clause-asks
returns-clause-asks c = ap (said.acting (said.Requests said.Continues)) (c.in_ok-own.ensures.limited (legend_by c.args.test.now))

pub returns-clause-within : goal.returns-clause-within
returns-clause-within c = (tt, c.in_ok-own.ensures.within (extent_of c.args.test.now) c.requires)

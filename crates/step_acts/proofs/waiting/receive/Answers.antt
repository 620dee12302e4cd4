use Rattle.std.proofs.Common.{ap, map, sym}
use Rattle.step_forms.proofs.Asking.{acting-fails}
use Rattle.step_acts.proofs.waiting.receive.Goals as goal
use Rattle.step_acts.specs.internal.Takings.{limited, stored_all}
use Rattle.step_choice.specs.Deeds.{stored_by}
use Rattle.semantics.specs.Statements as said
use Rattle.step_snapshot.specs.Tests.{legend_by, test_by}
use Rattle.config_parts.specs.Legend.{data_by}
use Rattle.value_types.specs.Outcomes.{outcome_and_then}

pub returns-in_err-own-2-clause-asks : goal.returns-in_err-own-2-clause-asks
returns-in_err-own-2-clause-asks c =
    let t = c.args.test.now in
    let legend = legend_by t in
    acting-fails legend (data_by legend) (said.Requests (said.Removes (legend.names c.args.port))) (outcome_and_then limited (stored_all (test_by t) (map stored_by c.args.stored.items) (data_by legend c.args.own))) (limited (data_by legend c.in_ok-own.own))
    c.in_err-own-2.field-0.0 c.from_residual-in_err-own-2.result (sym (ap (outcome_and_then limited) c.in_ok-own.ensures.stored)) (c.in_err-own-2.ensures.limited legend) c.from_residual-in_err-own-2.ensures.1

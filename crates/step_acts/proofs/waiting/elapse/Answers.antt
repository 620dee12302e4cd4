use Rattle.std.proofs.Common.{ap, sym}
use Rattle.step_forms.proofs.Asking.{asked}
use Rattle.step_acts.proofs.waiting.elapse.Goals as goal
use Rattle.step_acts.specs.internal.Takings.{effected_by, limited}
use Rattle.step_choice.specs.Deeds as deeds
use Rattle.semantics.specs.Statements as said
use Rattle.step_snapshot.specs.Tests.{legend_by, test_by}
use Rattle.config_parts.specs.Legend.{data_by}

pub returns-clause-asks : goal.returns-clause-asks
returns-clause-asks c =
    let t = c.args.test.now in
    let legend = legend_by t in
    asked legend (effected_by (test_by t) (deeds.Elapses c.args.name.now c.args.last) (data_by legend c.args.own)) (said.acting (said.Requests said.Continues) (limited (data_by legend c.in_ok-own.own))) c.act_limited.result
    (ap (λ d. said.acting (said.Requests said.Continues) (limited d)) (sym c.in_ok-own.ensures.changed)) c.act_limited.ensures.asks

use Rattle.std.proofs.Common.{subst, sym}
use Rattle.step_forms.proofs.Called.{activated-as}
use Rattle.step_forms.proofs.call.activate_call.Goals as goal
use Rattle.step_forms.specs.internal.Stands.{legend_of, site_of, stand_by}
use Rattle.semantics.specs.Configurations.{Data}
use Rattle.config_parts.specs.Legend.{data_by}
use Rattle.value_types.specs.Outcomes.{GivesBy, Outcome}

pub returns-clause-activated : goal.returns-clause-activated
returns-clause-activated c =
    let s = c.args.stand.now in
    let own = data_by (legend_of s) c.args.own in
    subst (λ (o : Outcome Data). GivesBy (data_by (legend_of s)) o c.activate.result)
    (sym (activated-as (stand_by s) (site_of s) c.args.call.now own c.in-Some.at c.in_ok-values.values (sym c.in-Some.ensures) c.in_ok-values.ensures))
    (c.activate.ensures.activated (legend_of s))

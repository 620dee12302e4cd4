use Rattle.std.proofs.Common.{ap, option_map, sym, ◌∙◌}
use Rattle.chart_steps.proofs.Steps.{verdict-of}
use Rattle.chart_steps.proofs.verdict.verdict_at.Goals as goal

pub returns-in-Some : goal.returns-in-Some
returns-in-Some c legend =
    sym (ap (option_map (λ x. x.now.verdict)) c.in-Some.is)
    ∙ verdict-of legend c.args.config.now c.in-Going.going c.args.path.now c.as_slice.result.now c.component_of.result c.in-Going.is c.component_of.ensures c.as_slice.ensures

pub returns-in-None : goal.returns-in-None
returns-in-None c legend =
    sym (ap (option_map (λ x. x.now.verdict)) c.in-None.is)
    ∙ verdict-of legend c.args.config.now c.in-Going.going c.args.path.now c.as_slice.result.now c.component_of.result c.in-Going.is c.component_of.ensures c.as_slice.ensures

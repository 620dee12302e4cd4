use Rattle.std.proofs.Common.{ap, sym, ◌∙◌}
use Rattle.std.specs.Option.{option_copied}
use Rattle.chart_steps.proofs.Steps.{last-behind}
use Rattle.chart_steps.proofs.story.last_of.Goals as goal

pub returns-in-Some : goal.returns-in-Some
returns-in-Some c = last-behind c.args.start.now c.args.steps.now c.in-Some.told.now (sym c.last.ensures.value ∙ ap option_copied c.in-Some.is)

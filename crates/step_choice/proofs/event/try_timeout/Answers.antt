use Rattle.std.proofs.Common.{Some, sym, ap, ◌∙◌}
use Rattle.semantics.specs.Events as events
use Rattle.step_choice.specs.Deeds as deeds
use Rattle.step_choice.proofs.event.try_timeout.Goals as goal

pub returns-in-Some-Expired : goal.returns-in-Some-Expired
returns-in-Some-Expired c site at own =
    let name = c.args.name.now in (
      events.Elapses name,
      (
        ap (events.try_timeout name) (sym (c.timer.ensures site at) ∙ c.in-Some-Expired.is ∙ ap Some c.in-Some-Expired.field-0-is),
        ap (deeds.Elapses name) own,
      ),
    )

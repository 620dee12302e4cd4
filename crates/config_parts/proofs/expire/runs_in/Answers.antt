use Rattle.std.proofs.Common.{sym, ap, ◌∙◌}
use Rattle.config_parts.proofs.Places.{found-at, placed, unfound}
use Rattle.config_parts.specs.internal.Expiries.{is_of_slot, runs_found}
use Rattle.config_parts.proofs.expire.runs_in.Goals as goal

pub returns-in-Some : goal.returns-in-Some
returns-in-Some c =
    c.is_running.ensures
    ∙ ap runs_found (sym (found-at (is_of_slot c.args.slot) c.args.timers.now c.in-Some.at _
    (sym (placed (is_of_slot c.args.slot) c.args.timers.now) ∙ sym c.place_of_timer.ensures ∙ c.in-Some.is)))

pub returns-in-None : goal.returns-in-None
returns-in-None c =
    ap runs_found (sym (unfound (is_of_slot c.args.slot) c.args.timers.now
    (sym (placed (is_of_slot c.args.slot) c.args.timers.now) ∙ sym c.place_of_timer.ensures ∙ c.in-None.is)))

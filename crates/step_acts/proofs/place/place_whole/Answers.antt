use Rattle.step_acts.proofs.Placing.{chosen-place}
use Rattle.step_acts.proofs.place.place_whole.Goals as goal
use Rattle.step_forms.specs.internal.Stands.{site_of}

pub returns-in-Some : goal.returns-in-Some
returns-in-Some c =
    let s = c.args.stand.now in
    chosen-place s c.place_of.result (c.place_of.ensures s.snapshot.now (site_of s) s.statement.now c.chosen_at_call.ensures.chosen)

pub returns-in-Event : goal.returns-in-Event
returns-in-Event c =
    let s = c.args.stand.now in
    chosen-place s c.place_of-in-Event.result (c.place_of-in-Event.ensures s.snapshot.now (site_of s) s.statement.now c.chosen_at_event.ensures.chosen)

pub returns-in-Alt : goal.returns-in-Alt
returns-in-Alt c =
    let s = c.args.stand.now in
    chosen-place s c.place_of-in-Alt.result (c.place_of-in-Alt.ensures s.snapshot.now (site_of s) s.statement.now c.chosen_at_alt.ensures.chosen)

use Rattle.std.proofs.Common.{length, refl, slice_get, ◌∙◌}
use Rattle.std.proofs.lemmas.Option.{slice_get_past, slice_get_read}
use Rattle.step_acts.proofs.Parts.{variable-asks, no-variable}
use Rattle.step_acts.proofs.step.act_variable_at.Goals as goal

pub returns-in-Some-clause-asks : goal.returns-in-Some-clause-asks
returns-in-Some-clause-asks c of is =
    let s = c.args.stand.now in
    let all = c.args.variables.now in
    variable-asks s c.act_variable.result of c.declared_type.result (slice_get all c.args.place) c.in-Some.variable.now
    (slice_get_read all (length all) c.args.place c.in-Some.variable.now refl c.in-Some.ensures.lookup.3.0 c.in-Some.ensures.lookup.1) (c.declared_type.ensures of (s.known ∙ is)) c.act_variable.ensures.asks

pub returns-in-None-clause-asks : goal.returns-in-None-clause-asks
returns-in-None-clause-asks c of is = no-variable c.args.stand.now of (slice_get c.args.variables.now c.args.place) (slice_get_past c.args.variables.now c.args.place c.in-None.ensures.lookup.3)

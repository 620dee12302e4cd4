use Rattle.std.proofs.Common.{length, refl, slice_get, ◌∙◌}
use Rattle.std.proofs.lemmas.Option.{slice_get_past, slice_get_read}
use Rattle.step_acts.proofs.Parts.{constant-asks, no-constant}
use Rattle.step_acts.proofs.step.act_constant_at.Goals as goal

pub returns-in-Some-clause-asks : goal.returns-in-Some-clause-asks
returns-in-Some-clause-asks c of is =
    let s = c.args.stand.now in
    let all = c.args.constants.now in
    constant-asks s c.act_constant.result of c.declared_type.result (slice_get all c.args.place) c.in-Some.constant.now
    (slice_get_read all (length all) c.args.place c.in-Some.constant.now refl c.in-Some.ensures.lookup.3.0 c.in-Some.ensures.lookup.1) (c.declared_type.ensures of (s.known ∙ is)) c.act_constant.ensures.asks

pub returns-in-None-clause-asks : goal.returns-in-None-clause-asks
returns-in-None-clause-asks c of is = no-constant c.args.stand.now of (slice_get c.args.constants.now c.args.place) (slice_get_past c.args.constants.now c.args.place c.in-None.ensures.lookup.3)

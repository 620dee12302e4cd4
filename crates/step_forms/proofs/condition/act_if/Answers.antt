use Rattle.std.proofs.Common.{length, refl}
use Rattle.std.proofs.lemmas.Option.{slice_get_past, slice_get_read}
use Rattle.step_forms.proofs.Conditions.{if-ends, if-tests}
use Rattle.step_forms.proofs.condition.act_if.Goals as goal
use Rattle.step_forms.specs.internal.Places.{list_at}

pub returns-in-Some-clause-asks : goal.returns-in-Some-clause-asks
returns-in-Some-clause-asks c =
    let s = c.args.stand.now in
    let test = (s.snapshot.now).test.now in
    if-tests s c.args.place c.args.conditionals.now c.args.last.now c.act_test.result c.requires c.in-Some.conditional.now (list_at test c.way-held.result) (list_at test c.way-failed.result)
    (slice_get_read c.args.conditionals.now (length c.args.conditionals.now) c.args.place c.in-Some.conditional.now refl c.in-Some.ensures.lookup.3.0 c.in-Some.ensures.lookup.1) c.way-held.ensures.leads c.way-failed.ensures.leads c.act_test.ensures.asks

pub returns-in-None-clause-asks : goal.returns-in-None-clause-asks
returns-in-None-clause-asks c =
    let s = c.args.stand.now in
    let test = (s.snapshot.now).test.now in
    if-ends s c.args.place c.args.conditionals.now c.args.last.now c.go_on.result c.requires (list_at test c.way-otherwise.result) (slice_get_past c.args.conditionals.now c.args.place c.in-None.ensures.lookup.3) c.way-otherwise.ensures.leads
    c.go_on.ensures.asks

use Rattle.std.proofs.lemmas.Option.{slice_get_within}
use Rattle.step_snapshot.proofs.Named.{slot-named}
use Rattle.step_snapshot.proofs.test_case.TestCase.slot_of.Goals as goal

pub returns-clause-within : goal.returns-clause-within
returns-clause-within c = slice_get_within c.args.self.now.names c.in-Some.slot c.args.name.now c.in-Some.ensures.found

pub returns-clause-named : goal.returns-clause-named
returns-clause-named c =
    let t = c.args.self.now in
    slot-named t.graphs.lists t.names c.in-Some.slot c.args.name.now (slice_get_within t.names c.in-Some.slot c.args.name.now c.in-Some.ensures.found) c.in-Some.ensures.found

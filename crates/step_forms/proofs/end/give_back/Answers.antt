use Rattle.step_forms.proofs.end.give_back.Goals as goal
use Rattle.step_snapshot.specs.Tests.{extent_of}

pub store_at-requires-clause-within : goal.store_at-requires-clause-within
store_at-requires-clause-within c = c.go_on.ensures.within (extent_of (c.args.snapshot.now).test.now) c.requires.behind c.in_ok-own.ensures.within

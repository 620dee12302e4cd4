use Rattle.step_forms.proofs.stand.Stand.remaining.Goals as goal
use Rattle.step_snapshot.specs.Tests.{extent_of}

pub returns-clause-within : goal.returns-clause-within
returns-clause-within c = c.go_on.ensures.within (extent_of (c.args.self.now).snapshot.now.test.now) c.requires c.in_ok-own.ensures.within

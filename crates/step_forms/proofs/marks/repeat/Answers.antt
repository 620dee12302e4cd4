use Rattle.step_forms.proofs.marks.repeat.Goals as goal
use Rattle.step_snapshot.specs.Tests.{extent_of}

pub returns-clause-within : goal.returns-clause-within
returns-clause-within c =
    let size = extent_of c.args.test.now in
    c.go_on.ensures.within size c.in-Some.ensures.there (c.in_ok-own.ensures.within size c.requires)

use Rattle.step_forms.proofs.simple.act_deactivate.Goals as goal
use Rattle.step_snapshot.specs.Tests.{extent_of}

pub returns-in_default-clause-within : goal.returns-in_default-clause-within
returns-in_default-clause-within c = (tt, c.deactivate_all.ensures.within (extent_of (c.args.stand.now).snapshot.now.test.now) c.in_ok-own.ensures.within)

pub returns-in-Default-clause-within : goal.returns-in-Default-clause-within
returns-in-Default-clause-within c = (tt, c.deactivate.ensures.within (extent_of (c.args.stand.now).snapshot.now.test.now) c.in_ok-own-in-Default.ensures.within)

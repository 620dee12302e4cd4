use Rattle.step_snapshot.specs.Tests.{test_by}
use Rattle.ttcn_step.proofs.Stuck.{blocked-stuck}
use Rattle.ttcn_step.proofs.places.blocked.Goals as goal
use Rattle.ttcn_step.specs.Machines.{machine_of, said}

pub returns-then-branch : goal.returns-then-branch
returns-then-branch c =
    let t = c.args.test.now in
    blocked-stuck (test_by t) (said (machine_of t) c.args.config.now) c.standings.result ((c.in_ok-is_stuck.ensures).0 c.if-branch.true) c.standings.ensures

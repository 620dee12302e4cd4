use Rattle.step_create.proofs.Declared.{part-known}
use Rattle.step_create.proofs.members.Maker.declare_timers.Goals as goal

pub declare_timer-requires-clause-known : goal.declare_timer-requires-clause-known
declare_timer-requires-clause-known c =
    part-known c.args.self.now.test.now.names (λ t. t.name) c.args.timers.now c.loop-timer.timer-index c.timer-item.result c.loop-timer-test.true c.timer-item.is c.requires.known

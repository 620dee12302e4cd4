use Rattle.step_create.proofs.Added.{HaveAdded}
use Rattle.step_create.proofs.ports.queues_of.Given as goal
use Rattle.step_create.specs.internal.Queues.{queues_for}

abbrev pub invariant-loop-member : goal.invariant-loop-member
invariant-loop-member l = HaveAdded l.members l.member-index (queues_for l.test l.queues.items)

use Rattle.step_create.proofs.Added.{HaveCome}
use Rattle.step_create.proofs.ports.add_ports.Given as goal
use Rattle.step_create.specs.internal.Queues.{queues_for}

abbrev pub invariant-loop-port : goal.invariant-loop-port
invariant-loop-port l = HaveCome l.ports (queues_for l.test l.fn.queues.items) l.port-index (queues_for l.test l.queues.items)

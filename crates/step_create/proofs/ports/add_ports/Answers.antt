use Rattle.step_create.proofs.Added.{port-known}
use Rattle.step_create.proofs.ports.add_ports.Goals as goal

pub slot_of-requires : goal.slot_of-requires
slot_of-requires c =
    port-known c.args.test.now.names c.args.ports.now c.loop-port.port-index c.port-item.result c.loop-port-test.true c.port-item.is c.requires

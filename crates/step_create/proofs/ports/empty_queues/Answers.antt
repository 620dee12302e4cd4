use Rattle.step_create.proofs.Declared.{declarations-known}
use Rattle.step_create.proofs.ports.empty_queues.Goals as goal

pub queues_of-requires : goal.queues_of-requires
queues_of-requires c =
    declarations-known c.args.test.now c.args.component_type c.declarations_of.result.now c.declarations_of.ensures

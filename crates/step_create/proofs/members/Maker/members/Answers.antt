use Rattle.step_create.proofs.Declared.{declarations-known}
use Rattle.step_create.proofs.members.Maker.members.Goals as goal

pub declare_members-requires : goal.declare_members-requires
declare_members-requires c =
    let self = c.args.self.now in
    declarations-known self.test.now self.itself.now.component_type c.declarations_of.result.now c.declarations_of.ensures

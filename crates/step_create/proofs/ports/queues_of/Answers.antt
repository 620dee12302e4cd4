use Rattle.std.proofs.Common.{subst, sym}
use Rattle.step_create.proofs.Added.{ports-known}
use Rattle.step_create.proofs.Declared.{member-among}
use Rattle.step_create.proofs.ports.queues_of.Goals as goal
use Rattle.step_snapshot.specs.Slots.{NoneIsMissing}

pub add_ports-requires : goal.add_ports-requires
add_ports-requires c =
    let names = c.args.test.now.names in
    subst (NoneIsMissing names) (sym c.ports_of.ensures)
    (ports-known names c.member-item.result (member-among names c.args.members.now c.loop-member.member-index c.member-item.result c.requires c.loop-member-test.true c.member-item.is))

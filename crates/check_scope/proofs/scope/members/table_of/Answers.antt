use Rattle.std.proofs.Common.{◌∙◌, ap, sym}
use Rattle.check_scope.specs.Names.{Names, behind_members}
use Rattle.check_scope.specs.internal.Tables.{either, said}
use Rattle.check_scope.proofs.Members.{members-end, members-next}
use Rattle.check_scope.proofs.scope.members.table_of.Goals as goal

pub loop-member-init : goal.loop-member-init
loop-member-init c = ap (λ (n : Names). behind_members (either n (said c.args.defined.now)) c.args.members.now) c.new-table.ensures

pub loop-member-preserved : goal.loop-member-preserved
loop-member-preserved c =
    let defined = said c.args.defined.now in
    sym (members-next (either (said c.loop-member.table) defined) (either (said c.add_member.new.table) defined) c.args.members.now c.loop-member.member-index c.member-item.result
    c.loop-member-test.true c.member-item.is c.in_ok-add_member.ensures) ∙ c.loop-member.invariant

pub returns : goal.returns
returns c =
    sym (members-end (either (said c.loop-member.table) (said c.args.defined.now)) c.args.members.now c.loop-member.member-index c.loop-member-test.false) ∙ c.loop-member.invariant

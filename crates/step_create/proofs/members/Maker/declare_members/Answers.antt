use Rattle.step_create.proofs.Declared.{member-among}
use Rattle.step_create.proofs.Turns.{fault-turned, one-turned}
use Rattle.step_create.proofs.members.Maker.declare_members.Goals as goal
use Rattle.step_create.specs.Makers.{frame_for}
use Rattle.semantics.specs.Creating as rules
use Rattle.step_snapshot.specs.Tests.{test_by}

pub declare_member-requires-clause-known : goal.declare_member-requires-clause-known
declare_member-requires-clause-known c =
    member-among c.args.self.now.test.now.names c.args.members.now c.loop-member.member-index c.member-item.result c.requires c.loop-member-test.true c.member-item.is

pub returns-in_err-cells-clause-declared : goal.returns-in_err-cells-clause-declared
returns-in_err-cells-clause-declared c snapshot runs =
    let self = c.args.self.now in
    fault-turned (frame_for self) (rules.declared_member (test_by self.test.now) self.itself.now snapshot) c.args.members.now rules.empty_frame (frame_for self c.loop-member.cells)
    c.loop-member.member-index c.member-item.result c.in_err-cells.field-0.0 c.from_residual.result c.loop-member-test.true c.member-item.is (c.loop-member.invariant.0 snapshot runs) c.from_residual.ensures.1
    (c.in_err-cells.ensures.declared snapshot runs)

pub loop-member-preserved : goal.loop-member-preserved
loop-member-preserved c =
    let self = c.args.self.now in (
      λ snapshot runs. one-turned (rules.declared_member (test_by self.test.now) self.itself.now snapshot) c.args.members.now rules.empty_frame (frame_for self c.loop-member.cells) (frame_for self c.in_ok-cells.cells)
          c.loop-member.member-index c.member-item.result c.loop-member-test.true c.member-item.is (c.loop-member.invariant.0 snapshot runs) (c.in_ok-cells.ensures.declared snapshot runs),
      c.in_ok-cells.ensures.within,
    )

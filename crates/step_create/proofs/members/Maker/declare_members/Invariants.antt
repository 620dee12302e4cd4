use Rattle.step_create.proofs.Turns.{HaveTurned}
use Rattle.step_create.proofs.members.Maker.declare_members.Given as goal
use Rattle.step_create.specs.Makers.{RunIn, frame_for, size_of}
use Rattle.semantics.specs.Creating as rules
use Rattle.semantics.specs.Snapshots.{Snapshot}
use Rattle.step_snapshot.specs.Tests.{test_by}
use Rattle.config_parts.specs.Views.{HasSlotsWithin}

abbrev pub invariant-loop-member : goal.invariant-loop-member
invariant-loop-member l =
    ((snapshot : Snapshot) → RunIn l.self.running.now snapshot
    → HaveTurned (rules.declared_member (test_by l.self.test.now) l.self.itself.now snapshot) l.members rules.empty_frame l.member-index (frame_for l.self l.cells))
    × HasSlotsWithin (size_of l.self) l.cells

use Rattle.step_create.proofs.Turns.{HaveTurned}
use Rattle.step_create.proofs.members.Maker.declare_constants.Given as goal
use Rattle.step_create.specs.Makers.{RunIn, frame_for, size_of}
use Rattle.check_scope.specs.Names.{module_names, resolved}
use Rattle.semantics.specs.Creating as rules
use Rattle.semantics.specs.Snapshots.{Snapshot}
use Rattle.step_snapshot.specs.Tests.{test_by}
use Rattle.config_parts.specs.Views.{HasSlotsWithin}

abbrev pub invariant-loop-constant : goal.invariant-loop-constant
invariant-loop-constant l =
    ((snapshot : Snapshot) → RunIn l.self.running.now snapshot
    → HaveTurned (λ f constant. rules.declared_with (test_by l.self.test.now) l.self.itself.now snapshot (resolved (module_names (l.self.test.now).definitions) l.type_name) f constant.name constant.value)
    l.constants (frame_for l.self l.fn.cells) l.constant-index (frame_for l.self l.cells))
    × HasSlotsWithin (size_of l.self) l.cells

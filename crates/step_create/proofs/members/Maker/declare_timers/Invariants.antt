use Rattle.step_create.proofs.Turns.{HaveTurned}
use Rattle.step_create.proofs.members.Maker.declare_timers.Given as goal
use Rattle.step_create.specs.Makers.{frame_for, size_of}
use Rattle.semantics.specs.Storing as storing
use Rattle.config_parts.specs.Views.{HasSlotsWithin}
use Rattle.value_types.specs.Outcomes.{Yields}

abbrev pub invariant-loop-timer : goal.invariant-loop-timer
invariant-loop-timer l =
    HaveTurned (λ f timer. Yields (storing.declare_timer timer.name f)) l.timers (frame_for l.self l.fn.cells) l.timer-index (frame_for l.self l.cells)
    × HasSlotsWithin (size_of l.self) l.cells

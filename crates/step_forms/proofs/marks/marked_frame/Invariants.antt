use Rattle.std.proofs.Common.{◌≡◌, drop}
use Rattle.step_forms.proofs.Marking.{repeated_by}
use Rattle.step_forms.proofs.marks.marked_frame.Given as goal
use Rattle.step_snapshot.specs.Tests.{legend_by}

-- the frames that were passed have no mark
abbrev pub invariant-loop-above : goal.invariant-loop-above
invariant-loop-above l = repeated_by (legend_by l.test) l.calls ≡ repeated_by (legend_by l.test) (drop l.above l.calls)

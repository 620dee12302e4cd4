use Rattle.std.proofs.Common.{◌≡◌, ◌++◌, drop}
use Rattle.step_snapshot.specs.Tests.{legend_by}
use Rattle.step_arrivals.proofs.Listed.{timers-by}
use Rattle.step_arrivals.proofs.expiry.push_frame.Given as goal

-- the labels so far, before those of the timers to come
abbrev pub invariant-loop-timer : goal.invariant-loop-timer
invariant-loop-timer l =
    l.labels.items ++ timers-by (legend_by l.test) l.path l.frame (drop l.timer-index l.timer-items)
    ≡ l.initial.labels.items ++ timers-by (legend_by l.test) l.path l.frame l.timer-items

use Rattle.std.proofs.Common.{◌≡◌, ◌++◌}
use Rattle.step_snapshot.specs.Tests.{legend_by}
use Rattle.step_arrivals.proofs.Listed.{calls_below}
use Rattle.step_arrivals.proofs.expiry.push_calls.Given as goal

-- the labels of the lowest frames are there
abbrev pub invariant-loop-below : goal.invariant-loop-below
invariant-loop-below l = l.labels.items ≡ l.initial.labels.items ++ calls_below (legend_by l.test) l.path l.calls l.below

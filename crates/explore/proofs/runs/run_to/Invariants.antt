use Rattle.std.proofs.Common.{◌≡◌, ◌<◌, ◌++◌, List, length}
use Rattle.std.specs.Prelude.{reverse}
use Rattle.summary.specs.Run.{Run, labels_of}
use Rattle.explore.specs.internal.Tied.{AreLastSteps, run_at}
use Rattle.explore.proofs.runs.run_to.Given as goal

abbrev pub invariant-loop-at : goal.invariant-loop-at
invariant-loop-at g l =
    (l.at < length l.steps)
    × ((runs : List (Run _)) → AreLastSteps runs l.steps → labels_of (run_at runs l.place) ≡ labels_of (run_at runs l.at) ++ reverse l.labels.items)

abbrev pub decreases-loop-at : goal.decreases-loop-at
decreases-loop-at g l = l.at

use Rattle.std.proofs.Common.{List}
use Rattle.std.specs.List.{AllZip}
use Rattle.explore.specs.internal.Noting.{IsRunBy}
use Rattle.explore.specs.internal.Tied.{AreLastSteps}
use Rattle.summary.specs.Run.{Run}
use Rattle.explore.proofs.sightings.runs_by.Given as goal

abbrev pub invariant-loop-one : goal.invariant-loop-one
invariant-loop-one g l = (runs : List (Run _)) → AreLastSteps runs l.steps → AllZip (IsRunBy runs) l.sightings.items l.yielded

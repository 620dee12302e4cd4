use Rattle.std.proofs.Common.{take}
use Rattle.explore.specs.internal.Tied.{AreFirstMarked}
use Rattle.explore.proofs.runs.first_marked.Given as goal

abbrev pub invariant-loop-place : goal.invariant-loop-place
invariant-loop-place g l = AreFirstMarked (g.Y.System.graph l.system) (take l.place l.states.keys) l.places

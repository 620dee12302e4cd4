use Rattle.std.proofs.Common.{◌-◌, take, drop}
use Rattle.std.specs.Prelude.{◌≢◌, All, Some}
use Rattle.explore.proofs.layers.is_marked.Given as goal

abbrev pub invariant-loop-place : goal.invariant-loop-place
invariant-loop-place g l = All (λ (s : _). (g.Y.System.graph l.system).mark s ≢ Some l.mark) (take (l.place - l.from) (drop l.from l.states.keys))

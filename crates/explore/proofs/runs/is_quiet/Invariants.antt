use Rattle.std.proofs.Common.{◌≡◌, ◌-◌, [], take, drop}
use Rattle.std.specs.Prelude.{All}
use Rattle.explore.proofs.runs.is_quiet.Given as goal

abbrev pub invariant-loop-place : goal.invariant-loop-place
invariant-loop-place g l = All (λ (s : _). (g.Y.System.graph l.system).enabled s ≡ []) (take (l.place - l.from) (drop l.from l.states.keys))

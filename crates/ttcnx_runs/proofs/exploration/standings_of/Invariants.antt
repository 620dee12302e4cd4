use Rattle.std.proofs.Common.{◌≡◌, take}
use Rattle.ttcnx_runs.proofs.exploration.standings_of.Given as goal

abbrev pub invariant-loop-key : goal.invariant-loop-key
invariant-loop-key l = l.standings.items ≡ take l.key-index l.key-items

use Rattle.std.proofs.Common.{◌≡◌, ◌-◌, map, take, drop}
use Rattle.summary.specs.Sums.{join_all}
use Rattle.search_layer.proofs.showing.show_between.Given as goal

abbrev pub invariant-loop-place : goal.invariant-loop-place
invariant-loop-place g l = l.summary ≡ join_all g.U.Summary.joins (map (g.U.Summary.observation l.system).at (take (l.place - l.from) (drop l.from l.states.keys)))

use Rattle.std.proofs.Common.{◌≡◌, map, drop}
use Rattle.ttcn_syntax.specs.declared.tree.statement.Timer.{Timer}
use Rattle.graph_names.specs.internal.Learning.{with_names}
use Rattle.graph_names.proofs.known.Names.add_timers.Given as goal

abbrev pub invariant-loop-timer : goal.invariant-loop-timer
invariant-loop-timer l = with_names l.self (map (λ (t : Timer). t.name) (drop l.timer-index l.timers)) ≡ with_names l.fn.self (map (λ (t : Timer). t.name) l.fn.timers)

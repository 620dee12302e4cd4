use Rattle.std.proofs.Common.{◌≡◌}
use Rattle.graph_numbers.proofs.names.in_order.Given as goal

abbrev pub invariant-loop-name : goal.invariant-loop-name
invariant-loop-name l = l.names.items ≡ l.yielded

use Rattle.std.proofs.Common.{◌≡◌, drop}
use Rattle.graph_names.specs.internal.Learning.{with_names}
use Rattle.graph_names.proofs.known.Names.add_ports.Given as goal

abbrev pub invariant-loop-port : goal.invariant-loop-port
invariant-loop-port l = with_names l.self (drop l.port-index l.ports) ≡ with_names l.fn.self l.fn.ports

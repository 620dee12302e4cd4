use Rattle.check_scope.specs.Names.{module_names}
use Rattle.graph_sites.proofs.MembersBehind.{IsBehind}
use Rattle.graph_sites.proofs.ports.port_behind.Given as goal

abbrev pub invariant-loop-at : goal.invariant-loop-at
invariant-loop-at l = IsBehind (module_names l.definitions) l.members l.name l.at

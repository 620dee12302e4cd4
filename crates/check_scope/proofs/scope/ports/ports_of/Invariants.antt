use Rattle.std.proofs.Common.{◌≡◌, length, take}
use Rattle.check_scope.specs.internal.Tables.{said}
use Rattle.check_scope.proofs.PortTypes.{HaveTraffic}
use Rattle.check_scope.proofs.scope.ports.ports_of.Given as goal

abbrev pub invariant-loop-definition : goal.invariant-loop-definition
invariant-loop-definition l = record {
  count : length l.ports.items ≡ l.definition-index;
  traffic : HaveTraffic (said l.defined) l.ports.items (take l.definition-index l.definitions);
}

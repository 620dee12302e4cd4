use Rattle.std.proofs.Common.{ap, arith, length, refl}
use Rattle.check_scope.specs.internal.Traffic.{types_at}
use Rattle.check_scope.specs.internal.Tables.{said}
use Rattle.check_scope.proofs.Alongside.{alongside-end, alongside-next, alongside-none}
use Rattle.check_scope.proofs.PortTypes.{passing_by}
use Rattle.check_scope.proofs.scope.ports.ports_of.Goals as goal

pub loop-definition-init : goal.loop-definition-init
loop-definition-init c = record {
  count = ap length c.new-ports.ensures.items;
  traffic = rw c.new-ports.ensures.items (alongside-none types_at (passing_by (said c.args.defined.now)) refl);
}

pub loop-definition-preserved : goal.loop-definition-preserved
loop-definition-preserved c = record {
  count = omega (arith, ap length c.in_ok-push.ensures.items, c.loop-definition.invariant.count, c.in_ok-push.ensures.len);
  traffic = alongside-next types_at (passing_by (said c.args.defined.now)) c.loop-definition.ports.items _ c.args.definitions.now c.loop-definition.definition-index c.in_ok-traffic.traffic c.definition-item.result
      c.loop-definition-test.true c.definition-item.is c.loop-definition.invariant.count refl
      c.in_ok-traffic.ensures c.in_ok-push.ensures.items c.loop-definition.invariant.traffic;
}

pub returns : goal.returns
returns c =
    alongside-end types_at (passing_by (said c.args.defined.now)) c.loop-definition.ports.items c.args.definitions.now c.loop-definition.definition-index c.loop-definition-test.false
    c.loop-definition.invariant.traffic

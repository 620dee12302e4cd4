use Rattle.std.proofs.Common.{ap, sym, drop, ◌+◌, ◌∙◌}
use Rattle.std.proofs.lemmas.List.{drop_all}
use Rattle.check_scope.proofs.Lookups.{drop-next}
use Rattle.graph_names.specs.internal.Learning.{with_names}
use Rattle.graph_names.proofs.known.Names.add_ports.Goals as goal

pub loop-port-preserved : goal.loop-port-preserved
loop-port-preserved c =
    ap (λ n. with_names n (drop (c.loop-port.port-index + 1) c.args.ports.now)) c.in_ok-add.ensures
    ∙ sym (ap (with_names c.loop-port.self) (drop-next c.args.ports.now c.loop-port.port-index c.port-item.result c.loop-port-test.true c.port-item.is))
    ∙ c.loop-port.invariant

pub returns : goal.returns
returns c = sym (ap (with_names c.loop-port.self) (drop_all c.loop-port.port-index c.args.ports.now c.loop-port-test.false)) ∙ c.loop-port.invariant

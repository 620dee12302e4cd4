use Rattle.std.proofs.Common.{map}
use Rattle.check_scope.specs.Names.{kind_at}
use Rattle.graph_names.specs.Known.{names_of_kind}
use Rattle.ttcn_step.proofs.Slotted.{items-slots, known-slots}
use Rattle.ttcn_step.proofs.testcases.slots_of.Goals as goal

pub returns-clause-items : goal.returns-clause-items
returns-clause-items c =
    let graphs = c.args.graphs.now in
    items-slots graphs.names (map (λ n. n.now) c.names.result.now) c.in_ok-names.names c.names.ensures c.in_ok-names.ensures graphs.lists c.knows_items.ensures

pub returns-clause-known : goal.returns-clause-known
returns-clause-known c = λ at.
    let graphs = c.args.graphs.now in
    known-slots graphs.names (map (λ n. n.now) c.names.result.now) c.in_ok-names.names c.names.ensures c.in_ok-names.ensures (names_of_kind (kind_at graphs.definitions at)) (c.knows_definitions.ensures at)

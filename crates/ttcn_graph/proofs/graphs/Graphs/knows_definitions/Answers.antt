use Rattle.std.proofs.Common.{ℕ, subst, sym}
use Rattle.check_scope.specs.Names.{kind_at}
use Rattle.graph_names.specs.Known.{AreKnown, names_of_kind}
use Rattle.graph_names.proofs.Learned.{know-definitions}
use Rattle.ttcn_graph.specs.Graphs.{Graphs}
use Rattle.ttcn_graph.proofs.graphs.Graphs.knows_definitions.Goals as goal

pub returns : goal.returns
returns c =
    let d = c.self.inside.drawn in
    subst (λ (graphs : Graphs). (at : ℕ) → AreKnown graphs.names (names_of_kind (kind_at graphs.definitions at))) c.self.view_is
    (λ at. subst (λ names. AreKnown names (names_of_kind (kind_at d.definitions at))) (sym c.self.invariant.3) (know-definitions d.definitions d.lists at))

use Rattle.std.proofs.Common.{ℕ, ◌<◌, [], get_or, length, subst, sym}
use Rattle.graph_names.specs.Known.{AreKnown, names_of}
use Rattle.graph_names.proofs.Learned.{know-lists}
use Rattle.ttcn_graph.specs.Graphs.{Graphs}
use Rattle.ttcn_graph.proofs.graphs.Graphs.knows_items.Goals as goal

pub returns : goal.returns
returns c =
    let d = c.self.inside.drawn in
    subst (λ (graphs : Graphs). (p : ℕ) → p < length graphs.lists → AreKnown graphs.names (names_of (get_or graphs.lists p []))) c.self.view_is
    (λ p below. subst (λ names. AreKnown names (names_of (get_or d.lists p []))) (sym c.self.invariant.3) (know-lists d.definitions d.lists p below))

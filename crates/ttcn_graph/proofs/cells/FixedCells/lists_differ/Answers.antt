use Rattle.std.proofs.Common.{subst}
use Rattle.graph_numbers.specs.Lists.{AreDifferent, lists_of}
use Rattle.ttcn_graph.proofs.Apart.{remaining-apart}
use Rattle.ttcn_graph.proofs.cells.FixedCells.lists_differ.Goals as goal

pub returns : goal.returns
returns c =
    subst (λ v. AreDifferent v.1) c.self.view_is
    (remaining-apart (lists_of c.self.inside.sites.cells.items) c.lists_differ.ensures (lists_of c.self.inside.items.cells.items) c.self.invariant c.lists_differ-2.ensures)

use Rattle.std.proofs.Common.{[], get_or, subst, sym}
use Rattle.graph_items.specs.Begun.{IsBegunBy}
use Rattle.ttcn_graph.specs.Drafts.{Draft}
use Rattle.ttcn_graph.proofs.drawn.Drawn.first.Goals as goal

pub returns-in-Some-clause-found : goal.returns-in-Some-clause-found
returns-in-Some-clause-found c =
    let cells = c.self.inside.cells in
    let rest = c.in-Some.rest in
    subst (λ (v : Draft). IsBegunBy (get_or v.lists c.args.at []) c.first_of.result (get_or v.lists rest [])) c.self.view_is
    (subst (λ list. IsBegunBy list c.first_of.result (get_or cells.1 rest [])) (sym c.in-Some.ensures.item) (c.first_of.ensures cells.0 (get_or cells.1 rest [])))

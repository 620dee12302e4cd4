use Rattle.std.proofs.Common.{[], ap, get_or, ◌∙◌}
use Rattle.graph_sites.specs.Facts.{facts_by, facts_of}
use Rattle.ttcn_graph.specs.Drafts.{Draft}
use Rattle.ttcn_graph.proofs.FactsKept.{known-at}
use Rattle.ttcn_graph.proofs.drawn.Drawn.facts.Goals as goal

pub returns : goal.returns
returns c =
    known-at facts_by (facts_of c.self.inside.definitions.now) c.self.inside.cells.2 c.self.inside.cells.1 c.args.at c.in-Some.facts.now c.self.invariant c.in-Some.ensures
    ∙ ap (λ (v : Draft). facts_of v.definitions (get_or v.lists c.args.at [])) c.self.view_is

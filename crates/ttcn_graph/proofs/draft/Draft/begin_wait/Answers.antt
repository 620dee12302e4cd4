use Rattle.std.proofs.Common.{[], ◌∷◌, get_or, subst}
use Rattle.semantics.specs.Items as rules
use Rattle.graph_items.specs.Standing.{target_of}
use Rattle.ttcn_graph.specs.Drafts.{Draft, IsBegun}
use Rattle.ttcn_graph.proofs.Drafted.{begun}
use Rattle.ttcn_graph.proofs.draft.Draft.begin_wait.Goals as goal

pub returns : goal.returns
returns c =
    let here = c.self.inside.here in
    let old = c.self.inside.cells.1 in
    let new : Draft = record { definitions = here.0; site = here.1; lists = c.put.new.self.1; ways = c.self.inside.ways.items } in
    subst (λ (v : Draft). IsBegun v new c.in_ok-at.at (rules.Waiting (target_of c.args.target) ∷ get_or v.lists c.args.rest [])) c.self.view_is
    (begun here.0 here.1 old c.put.new.self.1 c.self.inside.ways.items c.in_ok-at.at c.args.rest (rules.Waiting (target_of c.args.target)) c.in_ok-at.ensures.put)

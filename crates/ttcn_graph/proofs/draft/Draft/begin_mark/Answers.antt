use Rattle.std.proofs.Common.{[], ◌∷◌, get_or, subst}
use Rattle.semantics.specs.Items as rules
use Rattle.ttcn_graph.specs.Drafts.{Draft, IsBegun}
use Rattle.ttcn_graph.proofs.Drafted.{begun}
use Rattle.ttcn_graph.proofs.draft.Draft.begin_mark.Goals as goal

pub returns : goal.returns
returns c =
    let here = c.self.inside.here in
    let old = c.self.inside.cells.1 in
    let new : Draft = record { definitions = here.0; site = here.1; lists = c.put.new.self.1; ways = c.self.inside.ways.items } in
    subst (λ (v : Draft). IsBegun v new c.in_ok-at.at (rules.Mark v.site c.args.statement.now ∷ get_or v.lists c.args.rest [])) c.self.view_is
    (subst (λ (i : rules.Item). IsBegun (record new { lists = old }) new c.in_ok-at.at (i ∷ get_or old c.args.rest []))
    (λ k. rules.Mark (record { behaviour = c.behaviour.ensures k; declared = c.self.invariant.1 k }) (c.new.ensures k))
    (begun here.0 here.1 old c.put.new.self.1 c.self.inside.ways.items c.in_ok-at.at c.args.rest _ c.in_ok-at.ensures.put))

use Rattle.std.proofs.Common.{◌<◌, [], ◌∷◌, ap, get_or, length, subst, sym, ◌∙◌}
use Rattle.semantics.specs.Items as rules
use Rattle.semantics.specs.Items.{action_of}
use Rattle.graph_items.specs.Standing.{part_of}
use Rattle.graph_sites.specs.Facts.{facts_of, facts_of_part}
use Rattle.ttcn_graph.specs.Drafts.{Draft, IsBegun}
use Rattle.ttcn_graph.proofs.Drafted.{begun}
use Rattle.ttcn_graph.proofs.draft.Draft.begin.Goals as goal

pub invariant_of-self : goal.invariant_of-self
invariant_of-self c =
    let here = c.self.inside.here in
    let names = c.put.ensures.names in
    let is = c.in_ok-facts.ensures
    ∙ sym (λ k. facts_of_part here.0 (record { behaviour = c.behaviour.ensures k; declared = c.self.invariant.1 k }) (part_of c.args.part) (action_of (c.new.ensures k))) in (
      subst (λ n. c.self.inside.declared < length n) (sym names) c.self.invariant.0,
      ap (λ n. get_or n c.self.inside.declared []) names ∙ c.self.invariant.1,
      c.put.ensures.facts (facts_of here.0) c.self.invariant.2 is,
    )

pub invariant_of-self-2 : goal.invariant_of-self-2
invariant_of-self-2 c =
    let here = c.self.inside.here in
    let names = c.put.ensures.names in
    let is = c.in_ok-facts.ensures
    ∙ sym (λ k. facts_of_part here.0 (record { behaviour = c.behaviour.ensures k; declared = c.self.invariant.1 k }) (part_of c.args.part) (action_of (c.new.ensures k))) in (
      subst (λ n. c.self.inside.declared < length n) (sym names) c.self.invariant.0,
      ap (λ n. get_or n c.self.inside.declared []) names ∙ c.self.invariant.1,
      c.put.ensures.facts (facts_of here.0) c.self.invariant.2 is,
    )

pub returns : goal.returns
returns c =
    let here = c.self.inside.here in
    let old = c.self.inside.cells.1 in
    let new : Draft = record { definitions = here.0; site = here.1; lists = c.put.new.self.1; ways = c.self.inside.ways.items } in
    subst (λ (v : Draft). IsBegun v new c.in_ok-at.at (rules.Doing v.site c.args.statement.now (part_of c.args.part) ∷ get_or v.lists c.args.rest [])) c.self.view_is
    (subst (λ (i : rules.Item). IsBegun (record new { lists = old }) new c.in_ok-at.at (i ∷ get_or old c.args.rest []))
    (λ k. rules.Doing (record { behaviour = c.behaviour.ensures k; declared = c.self.invariant.1 k }) (c.new.ensures k) (part_of c.args.part))
    (begun here.0 here.1 old c.put.new.self.1 c.self.inside.ways.items c.in_ok-at.at c.args.rest _ c.in_ok-at.ensures.put))

use Rattle.std.proofs.Common.{List, ap, arith, get_or, length, map, subst, sym, ◌≡◌, ◌<◌, ◌∙◌, ℕ, []}
use Rattle.ttcn_syntax.specs.declared.tree.definition.Definition.{Definition}
use Rattle.graph_sites.specs.Facts.{altstep_facts, event_by}
use Rattle.graph_names.specs.internal.Learning.{all_names}
use Rattle.ttcn_graph.specs.Drafts.{AreAt, Draft}
use Rattle.ttcn_graph.specs.Graphs.{AllHaveWays, beginnings_at}
use Rattle.ttcn_graph.proofs.Graphed.{facts-end, facts-first, facts-more, facts-next, graphed-end, graphed-first, graphed-next, more-than}
use Rattle.ttcn_graph.proofs.graphs.draw_all.Goals as goal

pub loop-at-init : goal.loop-at-init
loop-at-init c = record {
  drawn = graphed-first c.args.definitions.now c.in_ok-draft.draft c.new-starts.result.items c.in_ok-draft.ensures c.new-starts.ensures.items;
  known = facts-first c.args.definitions.now c.new-altsteps.result.items c.new-altsteps.ensures.items;
}

pub loop-at-preserved : goal.loop-at-preserved
loop-at-preserved c = record {
  drawn = graphed-next c.args.definitions.now c.loop-at.draft c.in_ok-drawn.drawn c.loop-at.starts.items c.push.new.self.items c.in_ok-drawn.here c.loop-at.at c.loop-at.invariant.drawn
      c.in_ok-drawn.ensures.drawn c.in_ok-push.ensures.items;
  known = facts-next c.args.definitions.now c.loop-at.altsteps.items _ c.in_ok-drawn.facts c.loop-at.at c.loop-at.invariant.known
      c.in_ok-drawn.ensures.facts c.in_ok-push-2.ensures.items;
}

pub invariant_of-result : goal.invariant_of-result
invariant_of-result c =
    let end = c.loop-at-test.false in
    let definitions = c.args.definitions.now in
    let graphed = c.loop-at.invariant.drawn in
    let ended = c.in_ok-whole.ensures in
    let is : c.in_ok-whole.whole.definitions ≡ definitions = ap (λ (d : Draft). d.definitions) ended ∙ graphed.module_is in
    let starts = c.loop-at.starts.items in
    let pushed = c.push-2.new.self.items in
    let known = facts-more definitions c.loop-at.altsteps.items pushed c.new-2.result c.new-2.ensures c.in_ok-push-3.ensures.items
    (facts-end definitions c.loop-at.altsteps.items c.loop-at.at c.loop-at.invariant.known (omega (arith, end))) in
    let more = more-than definitions c.loop-at.altsteps.items pushed c.new-2.result c.loop-at.at c.loop-at.invariant.known (omega (arith, end)) c.in_ok-push-3.ensures.items in (
      subst AllHaveWays (sym ended) graphed.whole,
      subst (λ (d : Draft). (at : ℕ) → AreAt d.lists (get_or starts at []) (beginnings_at d.definitions at)) (sym ended)
          (graphed-end definitions c.loop-at.draft starts c.loop-at.at graphed (omega (arith, end))),
      subst (λ (definitions : List Definition). (at : ℕ) → map event_by (get_or pushed at []) ≡ altstep_facts definitions at) (sym is) known,
      c.in_ok-names.ensures ∙ ap (λ (definitions : List Definition). all_names definitions c.in_ok-whole.whole.lists) (sym is),
      subst (λ (definitions : List Definition). length definitions < length pushed) (sym is) more,
    )

use Rattle.std.proofs.Common.{◌≡◌, map, ap, sym, subst, ◌∙◌}
use Rattle.std.specs.Prelude.{All}
use Rattle.std.proofs.lemmas.Iterator.Adapters.{YieldsList-from_vec}
use Rattle.std.proofs.lemmas.Iterator.Consumers.{YieldsList-end}
use Rattle.summary.specs.Graph.{with_after}
use Rattle.search_layer.specs.Late.{IsSpared}
use Rattle.search_layer.proofs.Spared.{all_given, labels-kept, map-itself, none-spared}
use Rattle.search_layer.proofs.sparing.Sparing.sparing_successors.Given.{Over}
use Rattle.search_layer.proofs.sparing.Sparing.sparing_successors.Goals as goal
use Rattle.search_layer.proofs.sparing.Sparing.sparing_successors.Goals.{After-drop-label-iterator-2}

-- every state is there
found-is : (g : Over) (c : After-drop-label-iterator-2 g) → c.loop-label.found.items
    ≡ all_given (with_after (g.Self.System.graph c.args.self.now) c.args.state.now ((g.Self.System.graph c.args.self.now).enabled c.args.state.now))
found-is g c =
    let items = c.in_ok-items.items.items in
    let ended = YieldsList-end (YieldsList-from_vec {s = c.into_iter-label-iterator.result} items (cc) (cc)) c.loop-label.yielded c.loop-label.label-iterator c.loop-label.yielded_by
    c.next.result c.next.new.self c.in-None.is c.next.ensures.steps in
    c.loop-label.invariant ∙ ap all_given (sym (map-itself c.loop-label.yielded) ∙ ended.0 ∙ c.in_ok-items.ensures)

pub returns-clause-labels : goal.returns-clause-labels
returns-clause-labels g c =
    let graph = g.Self.System.graph c.args.self.now in
    let state = c.args.state.now in
    ap (map (λ p. p.0)) (found-is g c) ∙ labels-kept graph state (graph.enabled state)

pub returns-clause-states : goal.returns-clause-states
returns-clause-states g c =
    let graph = g.Self.System.graph c.args.self.now in
    let state = c.args.state.now in
    subst (All (IsSpared graph g.Self.Label.Ord.cmp c.args.before.now c.args.last.now state)) (sym (found-is g c))
    (none-spared graph g.Self.Label.Ord.cmp c.args.before.now c.args.last.now state (graph.enabled state))

use Rattle.std.proofs.Common.{◌∷◌, ◌++◌, [], List, ap, map, subst, sym, ◌∙◌}
use Rattle.std.specs.Prelude.{Contains}
use Rattle.std.proofs.lemmas.Iterator.Adapters.{YieldsList-from_vec}
use Rattle.std.proofs.lemmas.Iterator.Consumers.{YieldsList-end, YieldsList-turn}
use Rattle.std.proofs.lemmas.List.{map-append}
use Rattle.search_ordinals.proofs.Numbers.{branch-pair, branches-there, found-at, map-itself, pair-found}
use Rattle.search_ordinals.proofs.branched.Branched.branched_successors.Goals as goal

pub branch-self-requires-clause-enabled : goal.branch-self-requires-clause-enabled
branch-self-requires-clause-enabled g c =
    let graph = g.Self.System.graph c.args.self.now in
    let state = c.args.state.now in
    let items = c.in_ok-items.items.items in
    let turn = YieldsList-turn (YieldsList-from_vec {s = c.into_iter-label-iterator.result} items (cc) (cc)) c.loop-label.yielded c.loop-label.label-iterator c.loop-label.yielded_by
    c.next.result c.next.new.self (c.in-Some.label, c.in-Some.after) c.in-Some.is c.next.ensures.steps in
    pair-found (g.Self.Located.branch c.args.self.now) graph state (graph.enabled state) c.in-Some.label c.in-Some.after
    (subst (λ (pairs : List _). Contains pairs (c.in-Some.label, c.in-Some.after)) c.in_ok-items.ensures (found-at items _ (c.in-Some.label, c.in-Some.after) turn.0 turn.1))

pub loop-label-preserved : goal.loop-label-preserved
loop-label-preserved g c =
    let pair = branch-pair (g.Self.Located.branch c.args.self.now) (g.Self.System.graph c.args.self.now) c.args.state.now in
    c.in_ok-push.ensures.items
    ∙ ap (λ pairs. pairs ++ (c.in_ok-branch.branch, c.in-Some.after) ∷ []) c.loop-label.invariant
    ∙ ap (λ taken. map pair c.loop-label.yielded ++ (taken, c.in-Some.after) ∷ []) c.in_ok-branch.ensures
    ∙ sym (map-append pair c.loop-label.yielded ((c.in-Some.label, c.in-Some.after) ∷ []))

pub returns : goal.returns
returns g c =
    let graph = g.Self.System.graph c.args.self.now in
    let branch = g.Self.Located.branch c.args.self.now in
    let state = c.args.state.now in
    let items = c.in_ok-items.items.items in
    let ended = YieldsList-end (YieldsList-from_vec {s = c.into_iter-label-iterator.result} items (cc) (cc)) c.loop-label.yielded c.loop-label.label-iterator c.loop-label.yielded_by c.next.result c.next.new.self c.in-None.is c.next.ensures.steps in
    c.loop-label.invariant
    ∙ ap (map (branch-pair branch graph state)) (sym (map-itself c.loop-label.yielded) ∙ ended.0 ∙ c.in_ok-items.ensures)
    ∙ branches-there branch graph state (graph.enabled state)

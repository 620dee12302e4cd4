use Rattle.std.proofs.Common.{ap, sym, ◌∙◌}
use Rattle.std.proofs.lemmas.Iterator.Adapters.{YieldsList-from_vec}
use Rattle.std.proofs.lemmas.Iterator.Consumers.{YieldsList-end}
use Rattle.search_ordinals.proofs.Numbers.{map-itself, next-ordinal}
use Rattle.search_ordinals.specs.Ordinals.{ordinals_from}
use Rattle.search_ordinals.proofs.system.OrdinalSystemSystem.labels.Goals as goal

pub loop-label-preserved : goal.loop-label-preserved
loop-label-preserved g c =
    c.in_ok-push.ensures.items
    ∙ next-ordinal (g.Y.Located.branch c.args.self.now.system.now c.args.state.now) c.loop-label.yielded c.in-Some.label c.in_ok-nth.nth c.in_ok-branch.branch c.loop-label.ordinals.items
    c.loop-label.invariant (c.in_ok-nth.ensures ∙ c.len.ensures ∙ c.loop-label.ordinals.ok.0) c.in_ok-branch.ensures

pub returns : goal.returns
returns g c =
    let items = c.in_ok-label-items.label-items.items in
    let ended = YieldsList-end (YieldsList-from_vec {s = c.into_iter-label-iterator.result} items (cc) (cc)) c.loop-label.yielded c.loop-label.label-iterator c.loop-label.yielded_by c.next.result c.next.new.self c.in-None.is c.next.ensures.steps in
    c.loop-label.invariant
    ∙ ap (ordinals_from (g.Y.Located.branch c.args.self.now.system.now c.args.state.now) 0) (sym (map-itself c.loop-label.yielded) ∙ ended.0 ∙ c.in_ok-label-items.ensures)

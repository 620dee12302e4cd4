use Rattle.std.proofs.Common.{◌≡◌, ◌||◌, ap, sym, take, take_all, ◌∙◌}
use Rattle.std.specs.List.{filter}
use Rattle.std.proofs.lemmas.Iterator.Adapters.{YieldsList-from_vec}
use Rattle.std.proofs.lemmas.Iterator.Consumers.{YieldsList-end}
use Rattle.std.proofs.lemmas.List.Folds.{list_any_more}
use Rattle.search_bounds.proofs.Successors.{labels-within, map-itself}
use Rattle.search_bounds.proofs.system.BoundedSystemSystem.labels.Goals as goal
use Rattle.search_bounds.specs.Bounded.{any_statement, may_take}
use Rattle.search_bounds.specs.KeptRuns.{is_statement}

pub seen-preserved : goal.seen-preserved
seen-preserved g c =
    let items = c.deref-label-items.result.now in
    ap (λ some. some || c.is_statement-statement.result) c.seen.invariant
    ∙ ap (λ one. any_statement g.Y.Timed.kind (take c.seen.label-index items) || one) (c.is_statement-statement.ensures ∙ ap is_statement c.kind.ensures ∙ ap (λ label. is_statement (g.Y.Timed.kind label)) c.label-item.is)
    ∙ sym (list_any_more (λ label. is_statement (g.Y.Timed.kind label)) items c.seen.label-index c.label-item.result c.seen-test.true)

pub returns : goal.returns
returns g c =
    let items = c.in_ok-labels.labels.items in
    let seen : c.deref-label-items.result.now ≡ items = cc in
    let ended = YieldsList-end (YieldsList-from_vec {s = c.into_iter-label-iterator.result} items (cc) (cc)) c.taken.yielded c.taken.label-iterator c.taken.yielded_by c.next.result c.next.new.self c.in-None.is c.next.ensures.steps in
    let all : c.taken.yielded ≡ items = sym (map-itself c.taken.yielded) ∙ ended.0 in
    labels-within c.args.self.now.bound g.Y.Timed.kind (g.Y.System.graph c.args.self.now.system.now) c.args.b.now c.seen.statement c.may_expire-expire.result c.may_expire-expire.ensures
    items c.taken.kept.items c.in_ok-labels.ensures
    (c.seen.invariant ∙ ap (any_statement g.Y.Timed.kind) (take_all _ _ c.seen-test.false ∙ seen))
    (c.taken.invariant ∙ ap (filter (λ label. may_take c.may_expire-expire.result (g.Y.Timed.kind label))) all)

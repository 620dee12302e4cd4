use Rattle.std.proofs.Common.{◌≡◌, ◌||◌, ap, sym, take, take_all, ◌∙◌, ◌++◌, ◌∷◌, [], if◌then◌else◌, map}
use Rattle.std.specs.List.{filter, list_any}
use Rattle.std.proofs.lemmas.Iterator.Adapters.{YieldsList-from_vec}
use Rattle.std.proofs.lemmas.Iterator.Consumers.{YieldsList-end}
use Rattle.std.proofs.lemmas.List.Folds.{list_any_more}
use Rattle.search_bounds.proofs.Successors.{map-filter-more, map-itself, pair-of, pairs-within}
use Rattle.search_bounds.proofs.system.BoundedSystemSystem.successors.Goals as goal
use Rattle.search_bounds.specs.Bounded.{left_after, may_take}
use Rattle.search_bounds.specs.KeptRuns.{is_statement}

pub seen-preserved : goal.seen-preserved
seen-preserved g c =
    let items = c.deref-label-items.result.now in
    ap (λ some. some || c.is_statement-statement.result) c.seen.invariant
    ∙ ap (λ one. list_any (λ pair. is_statement (g.Y.Timed.kind pair.0)) (take c.seen.label-index items) || one)
    (c.is_statement-statement.ensures ∙ ap is_statement c.kind.ensures ∙ ap (λ pair. is_statement (g.Y.Timed.kind pair.0)) c.seen-item.is)
    ∙ sym (list_any_more (λ pair. is_statement (g.Y.Timed.kind pair.0)) items c.seen.label-index c.seen-item.result c.seen-test.true)

pub taken-preserved : goal.taken-preserved
taken-preserved g c =
    c.in_ok-keep.ensures
    ∙ ap (λ kept. kept ++ (if c.may_go-wanted.result then (c.in-Some.label, record { state = c.in-Some.state; left = c.left_behind-left.result }) ∷ [] else [])) c.taken.invariant
    ∙ map-filter-more (pair-of g.Y.Timed.kind c.args.b.now.left) (λ pair. may_take c.may_expire-expire.result (g.Y.Timed.kind pair.0)) c.taken.yielded (c.in-Some.label, c.in-Some.state)
    (c.in-Some.label, record { state = c.in-Some.state; left = c.left_behind-left.result }) c.may_go-wanted.result
    (ap (λ left. (c.in-Some.label, record { state = c.in-Some.state; left = left })) (c.left_behind-left.ensures ∙ ap (λ kind. left_after kind c.args.b.now.left) c.kind-kind.ensures))
    (c.may_go-wanted.ensures ∙ ap (may_take c.may_expire-expire.result) c.kind-kind.ensures)

pub returns : goal.returns
returns g c =
    let items = c.in_ok-pairs.pairs.items in
    let seen : c.deref-label-items.result.now ≡ items = cc in
    let ended = YieldsList-end (YieldsList-from_vec {s = c.into_iter-label-iterator.result} items (cc) (cc)) c.taken.yielded c.taken.label-iterator c.taken.yielded_by c.next.result c.next.new.self c.in-None.is c.next.ensures.steps in
    let all : c.taken.yielded ≡ items = sym (map-itself c.taken.yielded) ∙ ended.0 in
    pairs-within c.args.self.now.bound g.Y.Timed.kind (g.Y.System.graph c.args.self.now.system.now) c.args.b.now c.seen.statement c.may_expire-expire.result c.may_expire-expire.ensures
    items c.taken.kept.items c.in_ok-pairs.ensures
    (c.seen.invariant ∙ ap (list_any (λ pair. is_statement (g.Y.Timed.kind pair.0))) (take_all _ _ c.seen-test.false ∙ seen))
    (c.taken.invariant ∙ ap (λ found. map (pair-of g.Y.Timed.kind c.args.b.now.left) (filter (λ pair. may_take c.may_expire-expire.result (g.Y.Timed.kind pair.0)) found)) all)

use Rattle.std.proofs.Common.{◌≡◌, ◌∙◌, [], ◌∷◌, refl}
use Rattle.check_scope.specs.internal.Checking.{around, least, view}
use Rattle.check_scope.specs.Names.{declaring}
use Rattle.check_statements.proofs.Declared.{walked-first, walked-last, walked-next, walked-rules}
use Rattle.check_statements.proofs.declaration.declare_each.Goals as goal

pub loop-item-init : goal.loop-item-init
loop-item-init g c = λ rules entry each. (rw c.nothing-broken.ensures (walked-first rules entry (view c.args.scope.now) c.args.items.now), refl)

pub loop-item-preserved : goal.loop-item-preserved
loop-item-preserved g c = λ rules entry each.
    let before = c.loop-item.scope in
    let after = c.declare_item.new.arg2 in
    let item = c.item-item.result in
    let declared : (c.in_ok-more.more ≡ least (rules (view before) item)) × (view after ≡ declaring (view before) (entry (view before) item ∷ [])) × (around after ≡ around before) =
    each _ _ _ _ c.in_ok-more.ensures in
    let so_far = c.loop-item.invariant rules entry each in (
      walked-next rules entry c.loop-item.broken c.in_ok-more.more c.and-broken.result (view before) (view after) (view c.args.scope.now)
          c.args.items.now c.loop-item.item-index item c.loop-item-test.true c.item-item.is so_far.0 declared.0 declared.1 c.and-broken.ensures,
      declared.2 ∙ so_far.1,
    )

pub returns : goal.returns
returns g c = λ rules entry each.
    let so_far = c.loop-item.invariant rules entry each in
    let walked = walked-last rules entry c.loop-item.broken (view c.loop-item.scope) (view c.args.scope.now) c.args.items.now c.loop-item.item-index c.loop-item-test.false so_far.0 in
    (walked-rules rules entry c.loop-item.broken (view c.loop-item.scope) (view c.args.scope.now) c.args.items.now walked, walked.scope_is, so_far.1)

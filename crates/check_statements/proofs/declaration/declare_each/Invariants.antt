use Rattle.std.proofs.Common.{◌≡◌, List, [], ◌∷◌, drop, IfOk, OnOk}
use Rattle.check_scope.specs.internal.Checking.{around, least, view}
use Rattle.check_scope.specs.Names.{Entry, Scope, declaring}
use Rattle.check_scope.specs.declared.rule.Rule.{Rule}
use Rattle.check_statements.proofs.Declared.{Walked}
use Rattle.check_statements.proofs.declaration.declare_each.Given as goal

abbrev pub invariant-loop-item : goal.invariant-loop-item
invariant-loop-item g l = (rules : Scope → g.row.T.Denot → List Rule) → (entry : Scope → g.row.T.Denot → Entry)
    → ((before : _) (item : _) (done : _) (after : _) → goal.F-post g l.declare_item before item done after
    → IfOk done (λ broken. broken ≡ least (rules (view before.now) item.now))
    × OnOk done (view after.now ≡ declaring (view before.now) (entry (view before.now) item.now ∷ []))
    × OnOk done (around after.now ≡ around before.now))
    → Walked rules entry l.broken (view l.scope) (drop l.item-index l.items) (view l.fn.scope) l.fn.items × (around l.scope ≡ around l.fn.scope)

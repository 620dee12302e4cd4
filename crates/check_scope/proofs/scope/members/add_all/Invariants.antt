use Rattle.std.proofs.Common.{◌≡◌, drop, map}
use Rattle.check_scope.specs.Names.{behind}
use Rattle.check_scope.specs.internal.Tables.{said}
use Rattle.check_scope.proofs.scope.members.add_all.Given as goal

-- what is said behind the names that are left is what is said behind all
abbrev pub invariant-loop-item : goal.invariant-loop-item
invariant-loop-item g l =
    behind (said l.table) (map (λ item. (g.T.Named.named item, l.meaning)) (drop l.item-index l.items))
    ≡ behind (said l.fn.table) (map (λ item. (g.T.Named.named item, l.fn.meaning)) l.fn.items)

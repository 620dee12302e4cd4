use Rattle.std.proofs.Common.{◌≡◌, drop}
use Rattle.check_scope.specs.Names.{behind_members}
use Rattle.check_scope.specs.internal.Tables.{either, said}
use Rattle.check_scope.proofs.scope.members.table_of.Given as goal

-- the names so far, behind the declarations that are left, are those behind all
abbrev pub invariant-loop-member : goal.invariant-loop-member
invariant-loop-member l =
    behind_members (either (said l.table) (said l.defined)) (drop l.member-index l.members) ≡ behind_members (said l.fn.defined) l.fn.members

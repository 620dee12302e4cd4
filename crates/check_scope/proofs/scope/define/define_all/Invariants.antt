use Rattle.std.proofs.Common.{drop, None}
use Rattle.check_scope.specs.internal.Checking.{least_in}
use Rattle.check_scope.specs.Names.{entries_from}
use Rattle.check_scope.specs.internal.Tables.{said}
use Rattle.check_scope.proofs.Entries.{Left}
use Rattle.check_scope.proofs.scope.define.define_all.Given as goal

abbrev pub invariant-loop-at : goal.invariant-loop-at
invariant-loop-at l =
    Left (least_in l.found) (said l.table) (entries_from l.at (drop l.at l.definitions)) (least_in l.fn.found) (λ name. None) (entries_from 0 l.fn.definitions)

use Rattle.std.proofs.Common.{[], drop}
use Rattle.check_scope.specs.internal.Checking.{least}
use Rattle.check_scope.specs.Names.{constant_entries}
use Rattle.check_scope.specs.internal.Tables.{said}
use Rattle.check_scope.proofs.Entries.{Left}
use Rattle.check_scope.proofs.scope.define.add_constants.Given as goal

abbrev pub invariant-loop-item : goal.invariant-loop-item
invariant-loop-item l =
    Left l.broken (said l.table) (constant_entries l.at l.item (drop l.item l.constants)) (least []) (said l.fn.table) (constant_entries l.fn.at 0 l.fn.constants)

use Rattle.std.proofs.Common.{◌≡◌, drop}
use Rattle.check_scope.specs.internal.Checking.{least, view}
use Rattle.check_rules.specs.Statements.{check_log, check_log_item}
use Rattle.check_statements.proofs.Insides.{rest_of_parts}
use Rattle.check_statements.proofs.action.check_log.Given as goal

-- what was found so far and what is left are what all break
abbrev pub invariant-loop-item : goal.invariant-loop-item
invariant-loop-item l =
    rest_of_parts (check_log_item (view l.scope)) (drop l.item-index l.items) l.broken ≡ least (check_log (view l.fn.scope) l.fn.items)

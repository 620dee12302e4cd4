use Rattle.std.proofs.Common.{◌≡◌, drop}
use Rattle.check_scope.specs.internal.Checking.{least}
use Rattle.check_rules.specs.Definitions.{check_part, check_messages}
use Rattle.check_scope.specs.Names.{module_names}
use Rattle.check_statements.proofs.Insides.{rest_of_parts}
use Rattle.check_statements.proofs.kinds.check_messages.Given as goal

-- what was found so far and what is left are what all break
abbrev pub invariant-loop-type_name : goal.invariant-loop-type_name
invariant-loop-type_name l =
    rest_of_parts (check_part (module_names l.scope.definitions.now)) (drop l.type_name-index l.messages.types) l.broken
    ≡ least (check_messages (module_names l.fn.scope.definitions.now) l.fn.messages)

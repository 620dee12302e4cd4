use Rattle.std.proofs.Common.{◌≡◌, drop}
use Rattle.std.specs.List.{flat_map}
use Rattle.check_scope.specs.internal.Checking.{least}
use Rattle.check_rules.specs.Definitions.{check_messages}
use Rattle.check_scope.specs.Names.{module_names}
use Rattle.check_statements.proofs.Insides.{rest_of_parts}
use Rattle.check_statements.proofs.kinds.check_port.Given as goal

-- what was found so far and what is left are what all break
abbrev pub invariant-loop-direction : goal.invariant-loop-direction
invariant-loop-direction l =
    rest_of_parts (check_messages (module_names l.scope.definitions.now)) (drop l.direction-index l.messages) l.broken
    ≡ least (flat_map (check_messages (module_names l.fn.scope.definitions.now)) l.fn.messages)

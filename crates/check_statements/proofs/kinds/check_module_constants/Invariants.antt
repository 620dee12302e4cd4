use Rattle.std.proofs.Common.{◌≡◌, drop}
use Rattle.check_scope.specs.internal.Checking.{least, view}
use Rattle.check_rules.specs.Definitions.{check_module_constants}
use Rattle.check_scope.specs.Typings.{target_of}
use Rattle.check_rules.specs.Values.{value}
use Rattle.check_statements.proofs.Insides.{rest_of_parts}
use Rattle.check_statements.proofs.kinds.check_module_constants.Given as goal

-- what was found so far and what is left are what all break
abbrev pub invariant-loop-constant : goal.invariant-loop-constant
invariant-loop-constant l =
    rest_of_parts (λ constant. value constant.value (view l.scope) (target_of l.data_type)) (drop l.constant-index l.constants) l.broken
    ≡ least (check_module_constants (view l.fn.scope) l.fn.data_type l.fn.constants)

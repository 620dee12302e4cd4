use Rattle.std.proofs.Common.{◌≡◌, drop}
use Rattle.check_rules.specs.Calls as spec
use Rattle.check_scope.specs.internal.Checking.{least, view}
use Rattle.check_expressions.proofs.Arguments.{rest_of_arguments}
use Rattle.check_expressions.proofs.call.arguments.Given as goal

-- what was found so far and what is left are what all break
abbrev pub invariant-loop-argument : goal.invariant-loop-argument
invariant-loop-argument l =
    rest_of_arguments (view l.scope) l.left (drop l.argument-index l.given) l.broken ≡ least (spec.arguments (view l.fn.scope) l.fn.parameters l.fn.given)

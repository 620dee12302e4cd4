use Rattle.std.proofs.Common.{◌≡◌, drop}
use Rattle.check_rules.specs.Targets as checked
use Rattle.check_expressions.proofs.target.last_optional.Given as goal

-- what is left says what all say
abbrev pub invariant-loop-name : goal.invariant-loop-name
invariant-loop-name l =
    checked.last_optional l.scope.definitions.now l.around l.last (drop l.name-index l.names)
    ≡ checked.last_optional l.fn.scope.definitions.now l.fn.typing l.fn.optional l.fn.names

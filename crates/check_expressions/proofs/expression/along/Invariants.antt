use Rattle.std.proofs.Common.{◌≡◌, drop}
use Rattle.check_rules.specs.internal.Findings.{finding}
use Rattle.check_rules.specs.Expressions.{along}
use Rattle.check_expressions.proofs.Along.{left}
use Rattle.check_expressions.proofs.expression.along.Given as goal

-- what was found so far and what is left are what is said of all
abbrev pub invariant-loop-name : goal.invariant-loop-name
invariant-loop-name l = left l.scope.definitions.now l.found (drop l.name-index l.names) ≡ finding (along l.fn.scope.definitions.now l.fn.typing l.fn.names)

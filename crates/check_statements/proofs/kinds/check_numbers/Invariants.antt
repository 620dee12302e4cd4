use Rattle.std.proofs.Common.{[], drop}
use Rattle.check_scope.specs.internal.Checking.{least}
use Rattle.check_rules.specs.Definitions.{check_numbers}
use Rattle.check_statements.proofs.Insides.{Numbered}
use Rattle.check_statements.proofs.kinds.check_numbers.Given as goal

-- the numbers so far were given, and what was found so far and what is left are what all break
abbrev pub invariant-loop-enumerator : goal.invariant-loop-enumerator
invariant-loop-enumerator l = Numbered l.numbers (drop l.enumerator-index l.enumerators) l.broken (least (check_numbers [] l.fn.enumerators))

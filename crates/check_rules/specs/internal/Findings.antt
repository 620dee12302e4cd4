-- What is found of expressions, in the words of the private contracts.
use Rattle.std.specs.Prelude.{Bool, List, [], ◌∷◌}
use Rattle.ttcn_syntax.specs.declared.operator.Operator.{Operator}
use Rattle.check_rules.specs.Expressions.{Judgement, Judge}
use Rattle.check_scope.specs.Typings.{compares}
use Rattle.check_scope.specs.declared.broken.Broken.{Broken}
use Rattle.check_rules.specs.declared.finding.Finding.{Finding}
use Rattle.check_scope.specs.internal.Checking.{both, least}

-- what is said of an expression, with the least of the rules that are broken
abbrev pub finding : Judgement → Finding
finding judged = record { typing = judged.typing; broken = least judged.broken }

-- what is found, with what is broken before it
abbrev pub with_before : Broken → Finding → Finding
with_before before found = record { typing = found.typing; broken = both before found.broken }

-- `mtc` may be the first operand in front of these links
abbrev pub free_before : List (Operator × Judge) → Bool → Bool
free_before [] free = free
free_before (link ∷ links) free = compares link.0

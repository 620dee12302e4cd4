-- What is found behind what is broken before it.
use Rattle.std.proofs.Common.{◌≡◌, List, ap}
use Rattle.check_scope.specs.internal.Checking.{least}
use Rattle.check_rules.specs.internal.Findings.{finding, with_before}
use Rattle.check_rules.specs.Expressions.{Judgement, after}
use Rattle.check_scope.specs.declared.rule.Rule.{Rule}
pub use Rattle.check_scope.proofs.Leasts.{least_append}

-- what is broken before something
pub finding_after : (xs : List Rule) (judged : Judgement) → finding (after xs judged) ≡ with_before (least xs) (finding judged)
finding_after xs judged = ap (λ b. record { typing = judged.typing; broken = b }) (least_append xs judged.broken)

use Rattle.std.proofs.Common.{◌≡◌, map, drop}
use Rattle.check_scope.specs.internal.Checking.{view}
use Rattle.check_rules.specs.internal.Findings.{finding}
use Rattle.check_rules.specs.Expressions as spec
use Rattle.check_rules.proofs.Judgements.{all_linked}
use Rattle.check_expressions.proofs.expression.+expression.Given as goal

-- what was found so far with the links that are left is what is said of the whole expression
abbrev pub invariant-loop-link : goal.invariant-loop-link
invariant-loop-link l = all_linked (view l.scope) l.left (map spec.link (drop l.link-index l.links)) ≡ finding (spec.expression l.fn.expr (view l.fn.scope) l.fn.free)

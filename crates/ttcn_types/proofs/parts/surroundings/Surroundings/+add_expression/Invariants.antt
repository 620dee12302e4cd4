use Rattle.std.proofs.Common.{◌≡◌}
use Rattle.ttcn_types.specs.internal.Surrounding.{scope_of}
use Rattle.check_survey.specs.Things.{add}
use Rattle.check_rules.specs.Parts.{expression_parts, link_parts}
use Rattle.ttcn_types.proofs.Beside.{collecting}
use Rattle.ttcn_types.proofs.parts.surroundings.Surroundings.+add_expression.Given as goal

-- what was collected so far, with the links that are left, is what there was with the whole expression
abbrev pub invariant-loop-link : goal.invariant-loop-link
invariant-loop-link l =
    collecting (link_parts (scope_of l.self)) l.link-items l.link-index l.into ≡ add l.fn.into (expression_parts (scope_of l.fn.self) l.fn.expr)

use Rattle.std.proofs.Common.{◌≡◌, drop}
use Rattle.check_scope.specs.internal.Checking.{around, least, view}
use Rattle.check_rules.specs.Definitions as spec
use Rattle.check_statements.proofs.MemberForms.{rest_of_members}
use Rattle.check_statements.proofs.member.check_members.Given as goal

-- what was found so far and what is left are what all break
abbrev pub invariant-loop-member : goal.invariant-loop-member
invariant-loop-member l = record {
  rules_are : rest_of_members (view l.scope) (drop l.member-index l.members) l.broken ≡ least (spec.check_members (view l.fn.scope) l.fn.members);
  around_is : around l.scope ≡ around l.fn.scope;
}

use Rattle.std.proofs.Common.{◌∙◌, ap, refl, sym}
use Rattle.check_scope.specs.internal.Checking.{view}
use Rattle.check_statements.proofs.MemberForms.{check_members-end, check_members-next, rest_of_members}
use Rattle.check_statements.proofs.member.check_members.Goals as goal

pub loop-member-init : goal.loop-member-init
loop-member-init c = record {
  rules_are = ap (rest_of_members (view c.args.scope.now) c.args.members.now) c.nothing-broken.ensures;
  around_is = refl;
}

pub loop-member-preserved : goal.loop-member-preserved
loop-member-preserved c = record {
  rules_are =
      sym (check_members-next (view c.loop-member.scope) (view c.check_member.new.scope) c.args.members.now c.loop-member.member-index c.member-item.result
      c.loop-member.broken c.in_ok-more.more c.and-broken.result c.loop-member-test.true c.member-item.is
      c.in_ok-more.ensures.broken c.in_ok-more.ensures.view c.and-broken.ensures)
      ∙ c.loop-member.invariant.rules_are;
  around_is = c.in_ok-more.ensures.around ∙ c.loop-member.invariant.around_is;
}

pub returns-clause-broken : goal.returns-clause-broken
returns-clause-broken c =
    sym (check_members-end (view c.loop-member.scope) c.args.members.now c.loop-member.member-index c.loop-member.broken c.loop-member-test.false)
    ∙ c.loop-member.invariant.rules_are

pub returns-clause-around : goal.returns-clause-around
returns-clause-around c = c.loop-member.invariant.around_is

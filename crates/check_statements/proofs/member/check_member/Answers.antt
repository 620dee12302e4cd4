use Rattle.check_scope.specs.internal.Checking.{view}
use Rattle.check_statements.proofs.MemberForms.{behind-member-constants, behind-member-timers}
use Rattle.check_statements.proofs.member.check_member.Goals as goal

pub returns-in-Constants-clause-view : goal.returns-in-Constants-clause-view
returns-in-Constants-clause-view c =
    rw c.in-Constants.is (rw (behind-member-constants (view c.args.scope.now) c.in-Constants.declared) at c.constants.ensures.view)

pub returns-in-Timers-clause-view : goal.returns-in-Timers-clause-view
returns-in-Timers-clause-view c =
    rw c.in-Timers.is (rw (c.as_slice-in-Timers.ensures, behind-member-timers (view c.args.scope.now) c.in-Timers.declared) at c.timers.ensures.view)

use Rattle.check_scope.specs.internal.Checking.{around}
use Rattle.check_scope.proofs.Lookups.{view-inside}
use Rattle.check_scope.proofs.scope.Scope.enter.Goals as goal

pub returns-clause-view : goal.returns-clause-view
returns-clause-view c =
    rw (c.in_ok-push.ensures.items, c.replace-round.ensures.value)
    (view-inside (around c.args.self.now) c.args.self.now.locals c.replace-round.new.dest (rw c.replace-round.ensures.after c.new.ensures))

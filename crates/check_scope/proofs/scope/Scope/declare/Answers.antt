use Rattle.std.proofs.Common.{[], ◌∷◌}
use Rattle.check_scope.specs.internal.Checking.{around}
use Rattle.check_scope.proofs.Lookups.{view-declaring}
use Rattle.check_scope.proofs.scope.Scope.declare.Goals as goal

pub returns-clause-view : goal.returns-clause-view
returns-clause-view c = view-declaring (around c.args.self.now) c.args.self.now.locals c.insert.new.self ((c.args.name.now, c.args.meaning) ∷ []) c.in_ok-insert.ensures

use Rattle.std.proofs.Common.{◌∙◌}
use Rattle.check_scope.specs.Names.{resolved}
use Rattle.check_scope.specs.internal.Tables.{said}
use Rattle.check_scope.proofs.Added.{mapped-end, mapped-next}
use Rattle.check_scope.proofs.scope.ports.add_types.Goals as goal

pub loop-name-preserved : goal.loop-name-preserved
loop-name-preserved c =
    mapped-next (resolved (said c.args.defined.now)) c.args.names.now c.loop-name.name-index c.name-item.result c.loop-name.types.items c.push.new.self.items
    c.loop-name-test.true c.name-item.is (rw c.resolved_in.ensures at c.in_ok-push.ensures.items) ∙ c.loop-name.invariant

pub returns : goal.returns
returns c =
    mapped-end (resolved (said c.args.defined.now)) c.args.names.now c.loop-name.name-index c.loop-name.types.items c.loop-name-test.false ∙ c.loop-name.invariant

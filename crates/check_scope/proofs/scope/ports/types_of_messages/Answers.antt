use Rattle.std.proofs.Common.{◌∙◌}
use Rattle.check_scope.specs.PortTypes as spec
use Rattle.check_scope.specs.internal.Tables.{said}
use Rattle.check_scope.proofs.Added.{joined-end, joined-next}
use Rattle.check_scope.proofs.scope.ports.types_of_messages.Goals as goal

pub loop-messages-preserved : goal.loop-messages-preserved
loop-messages-preserved c =
    joined-next (spec.types_passing (said c.args.defined.now) c.args.incoming) c.args.all.now c.loop-messages.messages-index c.messages-item.result c.loop-messages.types.items
    c.add_passing.new.types.items c.loop-messages-test.true c.messages-item.is c.in_ok-add_passing.ensures ∙ c.loop-messages.invariant

pub returns : goal.returns
returns c =
    joined-end (spec.types_passing (said c.args.defined.now) c.args.incoming) c.args.all.now c.loop-messages.messages-index c.loop-messages.types.items c.loop-messages-test.false
    ∙ c.loop-messages.invariant

use Rattle.std.proofs.Common.{sym, ◌∙◌}
use Rattle.check_rules.specs.Definitions.{check_messages}
use Rattle.check_scope.specs.Names.{module_names}
use Rattle.check_statements.proofs.Insides.{parts-end, parts-next}
use Rattle.check_statements.proofs.kinds.check_port.Goals as goal

pub loop-direction-preserved : goal.loop-direction-preserved
loop-direction-preserved c =
    sym (parts-next (check_messages (module_names c.args.scope.now.definitions.now)) c.args.messages.now c.loop-direction.direction-index c.direction-item.result
    c.loop-direction.broken c.check_messages.result c.and-broken.result c.loop-direction-test.true c.direction-item.is c.check_messages.ensures c.and-broken.ensures)
    ∙ c.loop-direction.invariant

pub returns : goal.returns
returns c =
    sym (parts-end (check_messages (module_names c.args.scope.now.definitions.now)) c.args.messages.now c.loop-direction.direction-index c.loop-direction.broken c.loop-direction-test.false)
    ∙ c.loop-direction.invariant

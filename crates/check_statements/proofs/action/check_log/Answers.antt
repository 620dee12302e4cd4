use Rattle.std.proofs.Common.{sym, ◌∙◌}
use Rattle.check_scope.specs.internal.Checking.{view}
use Rattle.check_rules.specs.Statements.{check_log_item}
use Rattle.check_statements.proofs.Insides.{parts-end, parts-next}
use Rattle.check_statements.proofs.action.check_log.Goals as goal

pub loop-item-preserved : goal.loop-item-preserved
loop-item-preserved c =
    sym (parts-next (check_log_item (view c.args.scope.now)) c.args.items.now c.loop-item.item-index c.item-item.result
    c.loop-item.broken c.check_log_item.result c.and-broken.result c.loop-item-test.true c.item-item.is c.check_log_item.ensures c.and-broken.ensures)
    ∙ c.loop-item.invariant

pub returns : goal.returns
returns c =
    sym (parts-end (check_log_item (view c.args.scope.now)) c.args.items.now c.loop-item.item-index c.loop-item.broken c.loop-item-test.false)
    ∙ c.loop-item.invariant

use Rattle.std.proofs.Common.{sym, ◌∙◌}
use Rattle.check_scope.specs.internal.Checking.{view}
use Rattle.check_scope.specs.declared.types.DataType.TheVariants as type
use Rattle.check_rules.proofs.Judgements.{chain-end, chain-first, chain-next, expression-Not, expression-Signed, operand-found}
use Rattle.check_expressions.proofs.expression.+expression.Goals as goal

pub loop-link-init : goal.loop-link-init
loop-link-init t c =
    rw (c.in-Chain.is, c.as_slice-links.ensures)
    (chain-first (view c.args.scope.now) c.args.free c.in-Chain.first c.in-Chain.links c.expression-left.result
    (rw (c.get-in-Chain.ensures, c.is_free_before.ensures, c.as_slice-links.ensures) at c.expression-left.ensures))

pub loop-link-preserved : goal.loop-link-preserved
loop-link-preserved t c =
    sym (chain-next (view c.args.scope.now) c.as_slice-links.result.now c.loop-link.link-index c.link-item.result c.loop-link.left c.expression-right.result c.after-left.result
    c.loop-link-test.true c.link-item.is (rw c.compares.ensures at c.expression-right.ensures) (rw (c.after-in-loop-link.ensures, c.between.ensures) at c.after-left.ensures))
    ∙ c.loop-link.invariant

pub returns-in-Not : goal.returns-in-Not
returns-in-Not t c =
    rw c.in-Not.is (operand-found type.Boolean _ _ c.expression-found.result c.of_type.result c.after.result (expression-Not (view c.args.scope.now) c.args.free c.in-Not.operand)
    (rw c.get.ensures at c.expression-found.ensures) c.of_type.ensures c.after.ensures)

pub returns-in-Signed : goal.returns-in-Signed
returns-in-Signed t c =
    rw c.in-Signed.is (operand-found type.Integer _ _ c.expression-found-in-Signed.result c.of_type-in-Signed.result c.after-in-Signed.result
    (expression-Signed (view c.args.scope.now) c.args.free c.in-Signed.field-0 c.in-Signed.operand)
    (rw c.get-in-Signed.ensures at c.expression-found-in-Signed.ensures) c.of_type-in-Signed.ensures c.after-in-Signed.ensures)

pub returns-after-loop-link : goal.returns-after-loop-link
returns-after-loop-link t c =
    sym (chain-end (view c.args.scope.now) c.as_slice-links.result.now c.loop-link.link-index c.loop-link.left c.loop-link-test.false) ∙ c.loop-link.invariant

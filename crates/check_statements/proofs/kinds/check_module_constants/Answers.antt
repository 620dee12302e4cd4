use Rattle.std.proofs.Common.{sym, ◌∙◌}
use Rattle.ttcn_syntax.specs.declared.tree.statement.Constant.{Constant}
use Rattle.check_scope.specs.internal.Checking.{view}
use Rattle.check_scope.specs.Typings.{target_of}
use Rattle.check_rules.specs.Values.{value}
use Rattle.check_statements.proofs.Insides.{parts-end, parts-next}
use Rattle.check_statements.proofs.kinds.check_module_constants.Goals as goal

pub loop-constant-preserved : goal.loop-constant-preserved
loop-constant-preserved c =
    sym (parts-next (λ (constant : Constant). value constant.value (view c.args.scope.now) (target_of c.args.data_type)) c.args.constants.now c.loop-constant.constant-index c.constant-item.result
    c.loop-constant.broken c.in_ok-part.part c.and-broken.result c.loop-constant-test.true c.constant-item.is (rw c.of.ensures at c.in_ok-part.ensures) c.and-broken.ensures)
    ∙ c.loop-constant.invariant

pub returns : goal.returns
returns c =
    sym (parts-end (λ (constant : Constant). value constant.value (view c.args.scope.now) (target_of c.args.data_type)) c.args.constants.now c.loop-constant.constant-index c.loop-constant.broken c.loop-constant-test.false)
    ∙ c.loop-constant.invariant

use Rattle.std.proofs.Common.{sym, ap, ◌∙◌}
use Rattle.check_scope.specs.internal.Checking.{view}
use Rattle.check_expressions.proofs.Arguments.{arguments-end, arguments-next, rest_of_arguments}
use Rattle.check_expressions.proofs.call.arguments.Goals as goal

pub loop-argument-init : goal.loop-argument-init
loop-argument-init c = ap (rest_of_arguments (view c.args.scope.now) c.args.parameters.now c.args.given.now) c.nothing-broken.ensures

pub loop-argument-preserved : goal.loop-argument-preserved
loop-argument-preserved c =
    sym (arguments-next (view c.args.scope.now) c.loop-argument.left.now c.next_parameters-left.result.now c.args.given.now c.loop-argument.argument-index c.argument-item.result
    c.loop-argument.broken c.in_ok-part.part c.and-broken.result
    c.loop-argument-test.true c.argument-item.is c.next_parameters-left.ensures (rw c.parameter_target.ensures at c.in_ok-part.ensures) c.and-broken.ensures)
    ∙ c.loop-argument.invariant

pub returns : goal.returns
returns c =
    sym (arguments-end (view c.args.scope.now) c.loop-argument.left.now c.args.given.now c.loop-argument.argument-index c.loop-argument.broken c.loop-argument-test.false)
    ∙ c.loop-argument.invariant

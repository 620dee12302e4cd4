use Rattle.std.proofs.Common.{rules, ◌∙◌, sym}
use Rattle.check_expressions.proofs.Along.{along-end, along-next}
use Rattle.check_expressions.proofs.expression.along.Goals as goal

pub loop-name-init : goal.loop-name-init
loop-name-init c = rw c.fine-found.ensures (search rules)

pub loop-name-preserved : goal.loop-name-preserved
loop-name-preserved c =
    sym (along-next c.args.scope.now.definitions.now c.args.names.now c.loop-name.name-index c.name-item.result c.loop-name.found c.after-found.result
    c.loop-name-test.true c.name-item.is (rw c.within.ensures at c.after-found.ensures)) ∙ c.loop-name.invariant

pub returns : goal.returns
returns c =
    sym (along-end c.args.scope.now.definitions.now c.args.names.now c.loop-name.name-index c.loop-name.found c.loop-name-test.false) ∙ c.loop-name.invariant

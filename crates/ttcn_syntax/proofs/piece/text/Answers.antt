use Rattle.std.proofs.Common.{arith, ◌∙◌}
use Rattle.ttcn_syntax.proofs.Insides.{past-other, past-quotes}
use Rattle.ttcn_syntax.proofs.piece.text.Goals as goal

pub loop-at-preserved-then-rest-at-ne34 : goal.loop-at-preserved-then-rest-at-ne34
loop-at-preserved-then-rest-at-ne34 c =
    (omega arith, past-other c.args.rest.now c.loop-at.at c.loop-at-test.true c.if-rest-at-ne34.true ∙ c.loop-at.invariant.1)

pub loop-at-preserved : goal.loop-at-preserved
loop-at-preserved c =
    (omega arith, past-quotes c.args.rest.now c.loop-at.at (omega arith) (search arith) (search arith) ∙ c.loop-at.invariant.1)

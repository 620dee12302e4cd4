use Rattle.std.proofs.Common.{arith, refl}
use Rattle.ttcn_syntax.proofs.Decimals.{stays-too-large}
use Rattle.ttcn_syntax.proofs.reading.integer.Goals as goal

pub returns-then-value-unit : goal.returns-then-value-unit
returns-then-value-unit c = λ within.
    let large = stays-too-large c.args.digits.now c.loop-digit.digit-index c.loop-digit.value _ (omega arith) c.loop-digit.invariant.0 refl (omega arith) in
    omega (arith, large)

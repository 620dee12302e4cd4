use Rattle.std.proofs.Common.{rules, arith}
use Rattle.std.proofs.lemmas.Grind.{common_steps}
use Rattle.parse_reader.specs.internal.Expressions.{fields_from}
use Rattle.parse_reader.proofs.Turns.{last-turn, next-turn}
use Rattle.parse_expressions.proofs.expressions.fields.Goals as goal

pub returns-in_err-field : goal.returns-in_err-field
unfolding fields_from
returns-in_err-field c =
    let e = next-turn (λ n. fields_from n c.loop-turn.fields c.loop-turn.parser) _ c.loop-turn._turn c.loop-turn-test.true c.loop-turn.invariant in
    first_of (search rules, grind (arith, common_steps))

pub returns-in_default : goal.returns-in_default
unfolding fields_from
returns-in_default c =
    let e = next-turn (λ n. fields_from n c.loop-turn.fields c.loop-turn.parser) _ c.loop-turn._turn c.loop-turn-test.true c.loop-turn.invariant in
    first_of (search rules, grind (arith, common_steps))

pub loop-turn-preserved : goal.loop-turn-preserved
unfolding fields_from
loop-turn-preserved c =
    let e = next-turn (λ n. fields_from n c.loop-turn.fields c.loop-turn.parser) _ c.loop-turn._turn c.loop-turn-test.true c.loop-turn.invariant in
    first_of (search rules, grind (arith, common_steps))

pub returns : goal.returns
unfolding fields_from
returns c =
    let e = last-turn (λ n. fields_from n c.loop-turn.fields c.loop-turn.parser) _ c.loop-turn._turn c.loop-turn-test.false c.loop-turn.invariant in
    first_of (search rules, grind (arith, common_steps))

use Rattle.std.proofs.Common.{rules, arith}
use Rattle.std.proofs.lemmas.Grind.{common_steps}
use Rattle.parse_reader.specs.internal.Reading.{separated_from}
use Rattle.parse_reader.proofs.Turns.{last-turn, next-turn}
use Rattle.parse_reader.proofs.parser.Parser.separated.Goals as goal

pub returns-in_err-read : goal.returns-in_err-read
unfolding separated_from
returns-in_err-read g c =
    let e = next-turn (λ n. separated_from g.T.Listed.reader n c.loop-turn.all c.loop-turn.self) _ c.loop-turn._turn c.loop-turn-test.true c.loop-turn.invariant in
    first_of (search rules, grind (arith, common_steps))

pub returns-then-not-take_symbol : goal.returns-then-not-take_symbol
unfolding separated_from
returns-then-not-take_symbol g c =
    let e = next-turn (λ n. separated_from g.T.Listed.reader n c.loop-turn.all c.loop-turn.self) _ c.loop-turn._turn c.loop-turn-test.true c.loop-turn.invariant in
    first_of (search rules, grind (arith, common_steps))

pub loop-turn-preserved : goal.loop-turn-preserved
unfolding separated_from
loop-turn-preserved g c =
    let e = next-turn (λ n. separated_from g.T.Listed.reader n c.loop-turn.all c.loop-turn.self) _ c.loop-turn._turn c.loop-turn-test.true c.loop-turn.invariant in
    first_of (search rules, grind (arith, common_steps))

pub returns : goal.returns
unfolding separated_from
returns g c =
    let e = last-turn (λ n. separated_from g.T.Listed.reader n c.loop-turn.all c.loop-turn.self) _ c.loop-turn._turn c.loop-turn-test.false c.loop-turn.invariant in
    first_of (search rules, grind (arith, common_steps))

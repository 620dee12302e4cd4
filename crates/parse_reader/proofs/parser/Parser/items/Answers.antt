use Rattle.std.proofs.Common.{rules, arith}
use Rattle.std.proofs.lemmas.Grind.{common_steps}
use Rattle.parse_reader.specs.internal.Reading.{items_from, at_brace}
use Rattle.parse_reader.proofs.Turns.{last-turn, next-turn}
use Rattle.parse_reader.proofs.parser.Parser.items.Goals as goal

pub returns-then-is_at : goal.returns-then-is_at
unfolding items_from
returns-then-is_at g c =
    let e = next-turn (λ n. items_from at_brace g.T.Listed.reader n c.loop-turn.all c.loop-turn.self) _ c.loop-turn._turn c.loop-turn-test.true c.loop-turn.invariant in
    first_of (search rules, grind (arith, common_steps))

pub returns-in_err-read : goal.returns-in_err-read
unfolding items_from
returns-in_err-read g c =
    let e = next-turn (λ n. items_from at_brace g.T.Listed.reader n c.loop-turn.all c.loop-turn.self) _ c.loop-turn._turn c.loop-turn-test.true c.loop-turn.invariant in
    first_of (search rules, grind (arith, common_steps))

pub loop-turn-preserved : goal.loop-turn-preserved
unfolding items_from
loop-turn-preserved g c =
    let e = next-turn (λ n. items_from at_brace g.T.Listed.reader n c.loop-turn.all c.loop-turn.self) _ c.loop-turn._turn c.loop-turn-test.true c.loop-turn.invariant in
    first_of (search rules, grind (arith, common_steps))

pub returns : goal.returns
unfolding items_from
returns g c =
    let e = last-turn (λ n. items_from at_brace g.T.Listed.reader n c.loop-turn.all c.loop-turn.self) _ c.loop-turn._turn c.loop-turn-test.false c.loop-turn.invariant in
    first_of (search rules, grind (arith, common_steps))

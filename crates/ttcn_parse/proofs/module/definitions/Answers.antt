use Rattle.std.proofs.Common.{rules, arith}
use Rattle.std.proofs.lemmas.Grind.{common_steps}
use Rattle.parse_reader.specs.internal.Reading.{items_from}
use Rattle.parse_reader.specs.Modules.{at_last, definition_with}
use Rattle.parse_reader.proofs.Turns.{last-turn, next-turn}
use Rattle.ttcn_parse.proofs.module.definitions.Goals as goal

pub returns-then-is_at : goal.returns-then-is_at
unfolding items_from
returns-then-is_at c =
    let e = next-turn (λ n. items_from at_last definition_with n c.loop-turn.definitions c.loop-turn.parser) _ c.loop-turn._turn c.loop-turn-test.true c.loop-turn.invariant in
    first_of (search rules, grind (arith, common_steps))

pub returns-in_err-definition_with : goal.returns-in_err-definition_with
unfolding items_from
returns-in_err-definition_with c =
    let e = next-turn (λ n. items_from at_last definition_with n c.loop-turn.definitions c.loop-turn.parser) _ c.loop-turn._turn c.loop-turn-test.true c.loop-turn.invariant in
    first_of (search rules, grind (arith, common_steps))

pub loop-turn-preserved : goal.loop-turn-preserved
unfolding items_from
loop-turn-preserved c =
    let e = next-turn (λ n. items_from at_last definition_with n c.loop-turn.definitions c.loop-turn.parser) _ c.loop-turn._turn c.loop-turn-test.true c.loop-turn.invariant in
    first_of (search rules, grind (arith, common_steps))

pub returns : goal.returns
unfolding items_from
returns c =
    let e = last-turn (λ n. items_from at_last definition_with n c.loop-turn.definitions c.loop-turn.parser) _ c.loop-turn._turn c.loop-turn-test.false c.loop-turn.invariant in
    first_of (search rules, grind (arith, common_steps))

use Rattle.std.proofs.Common.{rules, arith}
use Rattle.std.proofs.lemmas.Grind.{common_steps}
use Rattle.parse_reader.specs.internal.Reading.{separated_from}
use Rattle.parse_reader.specs.internal.Values.{field_value_by, value_below}
use Rattle.parse_reader.proofs.Turns.{last-turn, next-turn}
use Rattle.parse_expressions.proofs.Readers.{value-below-step}
use Rattle.parse_expressions.proofs.values.+value.Goals as goal

pub values-returns-in_err-value_below : goal.values-returns-in_err-value_below
unfolding separated_from
values-returns-in_err-value_below t c =
    let e = next-turn (λ n. separated_from (value_below c.args.depth) n c.loop-turn.values c.loop-turn.parser) _ c.loop-turn._turn c.loop-turn-test.true c.loop-turn.invariant in
    first_of (search rules, grind (arith, common_steps))

pub values-returns-then-not-take_symbol : goal.values-returns-then-not-take_symbol
unfolding separated_from
values-returns-then-not-take_symbol t c =
    let e = next-turn (λ n. separated_from (value_below c.args.depth) n c.loop-turn.values c.loop-turn.parser) _ c.loop-turn._turn c.loop-turn-test.true c.loop-turn.invariant in
    first_of (search rules, grind (arith, common_steps))

pub values-loop-turn-preserved : goal.values-loop-turn-preserved
unfolding separated_from
values-loop-turn-preserved t c =
    let e = next-turn (λ n. separated_from (value_below c.args.depth) n c.loop-turn.values c.loop-turn.parser) _ c.loop-turn._turn c.loop-turn-test.true c.loop-turn.invariant in
    first_of (search rules, grind (arith, common_steps))

pub values-returns : goal.values-returns
unfolding separated_from
values-returns t c =
    let e = last-turn (λ n. separated_from (value_below c.args.depth) n c.loop-turn.values c.loop-turn.parser) _ c.loop-turn._turn c.loop-turn-test.false c.loop-turn.invariant in
    first_of (search rules, grind (arith, common_steps))

pub field_values-returns-in_err-field_value : goal.field_values-returns-in_err-field_value
unfolding separated_from
field_values-returns-in_err-field_value t c =
    let e = next-turn (λ n. separated_from (field_value_by (value_below c.args.depth)) n c.loop-turn.fields c.loop-turn.parser) _ c.loop-turn._turn c.loop-turn-test.true c.loop-turn.invariant in
    first_of (search rules, grind (arith, common_steps))

pub field_values-returns-then-not-take_symbol : goal.field_values-returns-then-not-take_symbol
unfolding separated_from
field_values-returns-then-not-take_symbol t c =
    let e = next-turn (λ n. separated_from (field_value_by (value_below c.args.depth)) n c.loop-turn.fields c.loop-turn.parser) _ c.loop-turn._turn c.loop-turn-test.true c.loop-turn.invariant in
    first_of (search rules, grind (arith, common_steps))

pub field_values-loop-turn-preserved : goal.field_values-loop-turn-preserved
unfolding separated_from
field_values-loop-turn-preserved t c =
    let e = next-turn (λ n. separated_from (field_value_by (value_below c.args.depth)) n c.loop-turn.fields c.loop-turn.parser) _ c.loop-turn._turn c.loop-turn-test.true c.loop-turn.invariant in
    first_of (search rules, grind (arith, common_steps))

pub field_values-returns : goal.field_values-returns
unfolding separated_from
field_values-returns t c =
    let e = last-turn (λ n. separated_from (field_value_by (value_below c.args.depth)) n c.loop-turn.fields c.loop-turn.parser) _ c.loop-turn._turn c.loop-turn-test.false c.loop-turn.invariant in
    first_of (search rules, grind (arith, common_steps))

pub value_below-returns-then-depth-eq0 : goal.value_below-returns-then-depth-eq0
unfolding value_below
value_below-returns-then-depth-eq0 t c = rw c.if-depth-eq0.true (search rules)

pub value_below-returns : goal.value_below-returns
unfolding value_below
value_below-returns t c =
    let e = value-below-step c.args.depth c.args.parser.now (omega (arith, c.if-depth-eq0.false)) in
    first_of (search rules, grind (arith, common_steps))

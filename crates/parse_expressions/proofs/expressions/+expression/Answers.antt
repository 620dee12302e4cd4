use Rattle.std.proofs.Common.{rules, arith, None}
use Rattle.std.proofs.lemmas.Grind.{common_steps}
use Rattle.parse_reader.specs.internal.Expressions.{bracketed, inner, links_from, operand_of}
use Rattle.parse_reader.proofs.Turns.{last-turn, next-turn, positive}
use Rattle.parse_expressions.proofs.expressions.+expression.Goals as goal

pub links-returns-in_err-operand : goal.links-returns-in_err-operand
unfolding links_from
links-returns-in_err-operand t c =
    let e = next-turn (λ n. links_from (operand_of (inner c.args.depth) c.args.tighter None) c.args.level n c.loop-turn.links c.loop-turn.parser) _ c.loop-turn._turn c.loop-turn-test.true c.loop-turn.invariant in
    first_of (search rules, grind (arith, common_steps))

pub links-loop-turn-preserved : goal.links-loop-turn-preserved
unfolding links_from
links-loop-turn-preserved t c =
    let e = next-turn (λ n. links_from (operand_of (inner c.args.depth) c.args.tighter None) c.args.level n c.loop-turn.links c.loop-turn.parser) _ c.loop-turn._turn c.loop-turn-test.true c.loop-turn.invariant in
    first_of (search rules, grind (arith, common_steps))

pub links-returns-in_default : goal.links-returns-in_default
unfolding links_from
links-returns-in_default t c =
    let e = next-turn (λ n. links_from (operand_of (inner c.args.depth) c.args.tighter None) c.args.level n c.loop-turn.links c.loop-turn.parser) _ c.loop-turn._turn c.loop-turn-test.true c.loop-turn.invariant in
    first_of (search rules, grind (arith, common_steps))

pub links-returns : goal.links-returns
unfolding links_from
links-returns t c =
    let e = last-turn (λ n. links_from (operand_of (inner c.args.depth) c.args.tighter None) c.args.level n c.loop-turn.links c.loop-turn.parser) _ c.loop-turn._turn c.loop-turn-test.false c.loop-turn.invariant in
    first_of (search rules, grind (arith, common_steps))

pub bracketed-returns-then-depth-eq0 : goal.bracketed-returns-then-depth-eq0
unfolding bracketed inner
bracketed-returns-then-depth-eq0 t c = rw c.if-depth-eq0.true (search rules)

pub bracketed-returns-in_err-expr : goal.bracketed-returns-in_err-expr
unfolding bracketed inner
bracketed-returns-in_err-expr t c =
    let e = positive inner c.args.depth (omega (arith, c.if-depth-eq0.false)) in
    first_of (search rules, grind (arith, common_steps))

pub bracketed-returns-in_err-symbol-2 : goal.bracketed-returns-in_err-symbol-2
unfolding bracketed inner
bracketed-returns-in_err-symbol-2 t c =
    let e = positive inner c.args.depth (omega (arith, c.if-depth-eq0.false)) in
    first_of (search rules, grind (arith, common_steps))

pub bracketed-returns : goal.bracketed-returns
unfolding bracketed inner
bracketed-returns t c =
    let e = positive inner c.args.depth (omega (arith, c.if-depth-eq0.false)) in
    first_of (search rules, grind (arith, common_steps))

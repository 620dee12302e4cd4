use Rattle.std.proofs.Common.{rules, arith}
use Rattle.std.proofs.lemmas.Grind.{common_steps}
use Rattle.parse_reader.specs.internal.Reading.{separated_from}
use Rattle.parse_reader.specs.internal.Templates.{field_template_by, shape_below, template_by}
use Rattle.parse_reader.proofs.Turns.{last-turn, next-turn}
use Rattle.parse_expressions.proofs.Readers.{shape-below-step}
use Rattle.parse_expressions.proofs.templates.+template.Goals as goal

pub templates-returns-in_err-template_below : goal.templates-returns-in_err-template_below
unfolding separated_from
templates-returns-in_err-template_below t c =
    let e = next-turn (λ n. separated_from (template_by (shape_below c.args.depth)) n c.loop-turn.templates c.loop-turn.parser) _ c.loop-turn._turn c.loop-turn-test.true c.loop-turn.invariant in
    first_of (search rules, grind (arith, common_steps))

pub templates-returns-then-not-take_symbol : goal.templates-returns-then-not-take_symbol
unfolding separated_from
templates-returns-then-not-take_symbol t c =
    let e = next-turn (λ n. separated_from (template_by (shape_below c.args.depth)) n c.loop-turn.templates c.loop-turn.parser) _ c.loop-turn._turn c.loop-turn-test.true c.loop-turn.invariant in
    first_of (search rules, grind (arith, common_steps))

pub templates-loop-turn-preserved : goal.templates-loop-turn-preserved
unfolding separated_from
templates-loop-turn-preserved t c =
    let e = next-turn (λ n. separated_from (template_by (shape_below c.args.depth)) n c.loop-turn.templates c.loop-turn.parser) _ c.loop-turn._turn c.loop-turn-test.true c.loop-turn.invariant in
    first_of (search rules, grind (arith, common_steps))

pub templates-returns : goal.templates-returns
unfolding separated_from
templates-returns t c =
    let e = last-turn (λ n. separated_from (template_by (shape_below c.args.depth)) n c.loop-turn.templates c.loop-turn.parser) _ c.loop-turn._turn c.loop-turn-test.false c.loop-turn.invariant in
    first_of (search rules, grind (arith, common_steps))

pub field_templates-returns-in_err-field_template : goal.field_templates-returns-in_err-field_template
unfolding separated_from
field_templates-returns-in_err-field_template t c =
    let e = next-turn (λ n. separated_from (field_template_by (template_by (shape_below c.args.depth))) n c.loop-turn.fields c.loop-turn.parser) _ c.loop-turn._turn c.loop-turn-test.true c.loop-turn.invariant in
    first_of (search rules, grind (arith, common_steps))

pub field_templates-returns-then-not-take_symbol : goal.field_templates-returns-then-not-take_symbol
unfolding separated_from
field_templates-returns-then-not-take_symbol t c =
    let e = next-turn (λ n. separated_from (field_template_by (template_by (shape_below c.args.depth))) n c.loop-turn.fields c.loop-turn.parser) _ c.loop-turn._turn c.loop-turn-test.true c.loop-turn.invariant in
    first_of (search rules, grind (arith, common_steps))

pub field_templates-loop-turn-preserved : goal.field_templates-loop-turn-preserved
unfolding separated_from
field_templates-loop-turn-preserved t c =
    let e = next-turn (λ n. separated_from (field_template_by (template_by (shape_below c.args.depth))) n c.loop-turn.fields c.loop-turn.parser) _ c.loop-turn._turn c.loop-turn-test.true c.loop-turn.invariant in
    first_of (search rules, grind (arith, common_steps))

pub field_templates-returns : goal.field_templates-returns
unfolding separated_from
field_templates-returns t c =
    let e = last-turn (λ n. separated_from (field_template_by (template_by (shape_below c.args.depth))) n c.loop-turn.fields c.loop-turn.parser) _ c.loop-turn._turn c.loop-turn-test.false c.loop-turn.invariant in
    first_of (search rules, grind (arith, common_steps))

pub shape_below-returns-then-depth-eq0 : goal.shape_below-returns-then-depth-eq0
unfolding shape_below
shape_below-returns-then-depth-eq0 t c = rw c.if-depth-eq0.true (search rules)

pub shape_below-returns : goal.shape_below-returns
shape_below-returns t c =
    let e = shape-below-step c.args.depth c.args.parser.now (omega (arith, c.if-depth-eq0.false)) in
    first_of (search rules, grind (arith, common_steps))

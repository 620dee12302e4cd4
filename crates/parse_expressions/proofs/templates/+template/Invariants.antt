use Rattle.std.proofs.Common.{◌≡◌, ◌+◌, ◌-◌, ◌*◌}
use Rattle.parse_reader.specs.internal.Reading.{separated, separated_from, separated_onto}
use Rattle.parse_reader.specs.internal.Templates.{field_template_by, shape_below, template_by}
use Rattle.parse_expressions.proofs.templates.+template.Given as goal

abbrev pub decreases-shape_in : goal.decreases-shape_in
decreases-shape_in l = l.depth * 16 + 13

abbrev pub decreases-complement : goal.decreases-complement
decreases-complement l = l.depth * 16 + 12

abbrev pub decreases-braced_template : goal.decreases-braced_template
decreases-braced_template l = l.depth * 16 + 12

abbrev pub decreases-in_parens : goal.decreases-in_parens
decreases-in_parens l = l.depth * 16 + 12

abbrev pub decreases-opened_by : goal.decreases-opened_by
decreases-opened_by l = l.depth * 16 + 11

abbrev pub decreases-list_from : goal.decreases-list_from
decreases-list_from l = l.depth * 16 + 10

abbrev pub decreases-templates : goal.decreases-templates
decreases-templates l = l.depth * 16 + 9

abbrev pub decreases-field_templates : goal.decreases-field_templates
decreases-field_templates l = l.depth * 16 + 9

abbrev pub decreases-field_template : goal.decreases-field_template
decreases-field_template l = l.depth * 16 + 8

abbrev pub decreases-template_below : goal.decreases-template_below
decreases-template_below l = l.depth * 16 + 7

abbrev pub decreases-shape_below : goal.decreases-shape_below
decreases-shape_below l = l.depth * 16 + 6

-- what was read so far and what is left are those of the beginning
abbrev pub invariant-templates-loop-turn : goal.invariant-templates-loop-turn
invariant-templates-loop-turn l =
    separated_onto (template_by (shape_below l.depth)) l.fn.found l.fn.parser
    ≡ separated_from (template_by (shape_below l.depth)) (l._turn-end - l._turn) l.templates l.parser

abbrev pub invariant-field_templates-loop-turn : goal.invariant-field_templates-loop-turn
invariant-field_templates-loop-turn l =
    separated (field_template_by (template_by (shape_below l.depth))) l.fn.parser
    ≡ separated_from (field_template_by (template_by (shape_below l.depth))) (l._turn-end - l._turn) l.fields l.parser

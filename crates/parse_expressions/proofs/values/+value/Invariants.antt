use Rattle.std.proofs.Common.{◌≡◌, ◌+◌, ◌-◌, ◌*◌}
use Rattle.parse_reader.specs.internal.Reading.{separated, separated_from}
use Rattle.parse_reader.specs.internal.Values.{field_value_by, value_below}
use Rattle.parse_expressions.proofs.values.+value.Given as goal

abbrev pub decreases-value_in : goal.decreases-value_in
decreases-value_in l = l.depth * 8 + 6

abbrev pub decreases-braced_value : goal.decreases-braced_value
decreases-braced_value l = l.depth * 8 + 5

abbrev pub decreases-values : goal.decreases-values
decreases-values l = l.depth * 8 + 4

abbrev pub decreases-field_values : goal.decreases-field_values
decreases-field_values l = l.depth * 8 + 4

abbrev pub decreases-field_value : goal.decreases-field_value
decreases-field_value l = l.depth * 8 + 3

abbrev pub decreases-value_below : goal.decreases-value_below
decreases-value_below l = l.depth * 8 + 2

-- what was read so far and what is left are those of the beginning
abbrev pub invariant-values-loop-turn : goal.invariant-values-loop-turn
invariant-values-loop-turn l = separated (value_below l.depth) l.fn.parser ≡ separated_from (value_below l.depth) (l._turn-end - l._turn) l.values l.parser

abbrev pub invariant-field_values-loop-turn : goal.invariant-field_values-loop-turn
invariant-field_values-loop-turn l =
    separated (field_value_by (value_below l.depth)) l.fn.parser
    ≡ separated_from (field_value_by (value_below l.depth)) (l._turn-end - l._turn) l.fields l.parser

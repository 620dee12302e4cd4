use Rattle.std.proofs.Common.{◌≡◌, ◌-◌, [], length}
use Rattle.parse_reader.specs.internal.Expressions.{fields_from}
use Rattle.parse_expressions.proofs.expressions.fields.Given as goal

-- the fields so far and those that are left are those of the beginning
abbrev pub invariant-loop-turn : goal.invariant-loop-turn
invariant-loop-turn l = fields_from (length l.fn.parser) [] l.fn.parser ≡ fields_from (l._turn-end - l._turn) l.fields l.parser

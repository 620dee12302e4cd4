use Rattle.std.proofs.Common.{◌≡◌, ◌-◌, [], length}
use Rattle.parse_reader.specs.internal.Reading.{separated_from}
use Rattle.parse_reader.proofs.parser.Parser.separated.Given as goal

-- what was read so far and what is left are those of the beginning
abbrev pub invariant-loop-turn : goal.invariant-loop-turn
invariant-loop-turn g l = separated_from g.T.Listed.reader (length l.fn.self) [] l.fn.self ≡ separated_from g.T.Listed.reader (l._turn-end - l._turn) l.all l.self

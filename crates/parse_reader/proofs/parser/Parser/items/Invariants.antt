use Rattle.std.proofs.Common.{◌≡◌, ◌-◌, [], length}
use Rattle.parse_reader.specs.internal.Reading.{at_brace, items_from}
use Rattle.parse_reader.proofs.parser.Parser.items.Given as goal

-- the items so far and those that are left are those of the beginning
abbrev pub invariant-loop-turn : goal.invariant-loop-turn
invariant-loop-turn g l = items_from at_brace g.T.Listed.reader (length l.fn.self) [] l.fn.self ≡ items_from at_brace g.T.Listed.reader (l._turn-end - l._turn) l.all l.self

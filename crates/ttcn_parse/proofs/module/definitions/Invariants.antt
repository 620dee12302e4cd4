use Rattle.std.proofs.Common.{◌≡◌, ◌-◌, [], length}
use Rattle.parse_reader.specs.internal.Reading.{items_from}
use Rattle.parse_reader.specs.Modules.{at_last, definition_with}
use Rattle.ttcn_parse.proofs.module.definitions.Given as goal

-- the definitions so far and those that are left are those of the beginning
abbrev pub invariant-loop-turn : goal.invariant-loop-turn
invariant-loop-turn l =
    items_from at_last definition_with (length l.fn.parser) [] l.fn.parser
    ≡ items_from at_last definition_with (l._turn-end - l._turn) l.definitions l.parser

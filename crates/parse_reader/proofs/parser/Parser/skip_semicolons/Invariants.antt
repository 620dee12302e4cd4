use Rattle.std.proofs.Common.{◌≡◌, length}
use Rattle.parse_reader.specs.internal.Reading.{after_semicolons}
use Rattle.parse_reader.proofs.parser.Parser.skip_semicolons.Given as goal

-- what is left of the semicolons was there from the beginning
abbrev pub invariant-loop-self : goal.invariant-loop-self
invariant-loop-self l = after_semicolons l.initial.self ≡ after_semicolons l.self

abbrev pub decreases-loop-self : goal.decreases-loop-self
decreases-loop-self l = length l.self

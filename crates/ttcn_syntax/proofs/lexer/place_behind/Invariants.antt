use Rattle.std.proofs.Common.{◌≡◌, ◌+◌, ◌≤◌, fold, drop}
use Rattle.ttcn_syntax.specs.Places.{next_place}
use Rattle.ttcn_syntax.proofs.lexer.place_behind.Given as goal

abbrev pub invariant-loop-byte : goal.invariant-loop-byte
invariant-loop-byte l =
    (fold next_place (record { line = l.line; column = l.column }) (drop l.byte-index l.bytes) ≡ fold next_place l.fn.place l.bytes)
    × (l.line ≤ l.fn.place.line + l.byte-index)
    × (l.column ≤ l.fn.place.column + l.byte-index)

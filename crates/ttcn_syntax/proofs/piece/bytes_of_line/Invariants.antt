use Rattle.std.proofs.Common.{◌≡◌, ℕ, ◌<◌, get_or, true}
use Rattle.ttcn_syntax.specs.Characters.{is_within_line}
use Rattle.ttcn_syntax.proofs.piece.bytes_of_line.Given as goal

abbrev pub invariant-loop-i : goal.invariant-loop-i
invariant-loop-i l = (k : ℕ) → k < l.i → is_within_line (get_or l.rest k 0) ≡ true

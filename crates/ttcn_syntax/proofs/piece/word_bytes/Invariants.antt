use Rattle.std.proofs.Common.{◌≡◌, ℕ, ◌<◌, get_or, true}
use Rattle.ttcn_syntax.specs.Characters.{is_word_byte}
use Rattle.ttcn_syntax.proofs.piece.word_bytes.Given as goal

abbrev pub invariant-loop-i : goal.invariant-loop-i
invariant-loop-i l = (k : ℕ) → k < l.i → is_word_byte (get_or l.rest k 0) ≡ true

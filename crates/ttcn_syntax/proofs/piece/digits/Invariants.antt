use Rattle.std.proofs.Common.{◌≡◌, ℕ, ◌<◌, get_or, true}
use Rattle.ttcn_syntax.specs.Characters.{is_digit}
use Rattle.ttcn_syntax.proofs.piece.digits.Given as goal

abbrev pub invariant-loop-i : goal.invariant-loop-i
invariant-loop-i l = (k : ℕ) → k < l.i → is_digit (get_or l.rest k 0) ≡ true

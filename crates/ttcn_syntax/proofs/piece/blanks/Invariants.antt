use Rattle.std.proofs.Common.{◌≡◌, ℕ, ◌<◌, get_or, true}
use Rattle.ttcn_syntax.specs.Characters.{is_blank}
use Rattle.ttcn_syntax.proofs.piece.blanks.Given as goal

abbrev pub invariant-loop-i : goal.invariant-loop-i
invariant-loop-i l = (k : ℕ) → k < l.i → is_blank (get_or l.rest k 0) ≡ true

use Rattle.std.proofs.Common.{◌≡◌, ◌≤◌, ◌-◌, length, drop}
use Rattle.ttcn_syntax.specs.Front.{inside_text}
use Rattle.ttcn_syntax.proofs.piece.text.Given as goal

abbrev pub invariant-loop-at : goal.invariant-loop-at
invariant-loop-at l = (l.at ≤ length l.rest) × (inside_text (drop l.at l.rest) l.at ≡ inside_text (drop 1 l.rest) 1)

abbrev pub decreases-loop-at : goal.decreases-loop-at
decreases-loop-at l = length l.rest - l.at

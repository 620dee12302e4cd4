use Rattle.std.proofs.Common.{◌≡◌, drop}
use Rattle.ttcn_syntax.specs.Front.{inside_comment}
use Rattle.ttcn_syntax.proofs.piece.block_comment.Given as goal

abbrev pub invariant-loop-at : goal.invariant-loop-at
invariant-loop-at l = inside_comment (drop l.at l.rest) l.at ≡ inside_comment (drop 2 l.rest) 2

use Rattle.std.proofs.Common.{◌-◌, length}
use Rattle.ttcn_syntax.proofs.Cuts.{IsReadTo}
use Rattle.ttcn_syntax.proofs.lexer.lex.Given as goal

abbrev pub invariant-loop-at : goal.invariant-loop-at
invariant-loop-at l = IsReadTo l.text l.at l.place l.tokens.items

abbrev pub decreases-loop-at : goal.decreases-loop-at
decreases-loop-at l = length l.text - l.at

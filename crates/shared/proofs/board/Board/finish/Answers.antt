use Rattle.std.proofs.Common.{arith}
use Rattle.std.proofs.lemmas.Bool.Decides.{nat_tests}
use Rattle.shared.proofs.BoardKeeps.{last-once, last-below, last-each, last-saw, last-raised, last-up}
use Rattle.shared.proofs.board.Board.finish.Goals as goal

pub returns-clause-once : goal.returns-clause-once
returns-clause-once c = last-once _ _ _ _ c.close_with-closed.ensures.values.2

pub returns-clause-below : goal.returns-clause-below
returns-clause-below c = last-below _ _ _ _ c.close_with-closed.ensures.values.2

pub returns-clause-each : goal.returns-clause-each
returns-clause-each c = last-each _ _ _ _ c.close_with-closed.ensures.values.2 c.requires.own.2

pub returns-clause-saw : goal.returns-clause-saw
returns-clause-saw c = λ saw. let up = last-saw _ _ _ _ c.close_with-closed.ensures.values.2 _ c.word-raised.ensures c.args.seat.lives saw in grind (arith, nat_tests, up)

pub returns-clause-raised : goal.returns-clause-raised
returns-clause-raised c = λ all. (
  (λ yes. last-raised _ _ _ _ c.close_with-closed.ensures.values.2 _ c.word-raised.ensures c.requires.own.2 all (grind (arith, nat_tests, yes))),
  λ more. let up = last-up _ _ _ _ c.close_with-closed.ensures.values.2 _ c.word-raised.ensures c.args.seat.lives more in grind (arith, nat_tests, up),
)

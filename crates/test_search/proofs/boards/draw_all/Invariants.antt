use Rattle.std.proofs.Common.{◌≡◌, false}
use Rattle.shared.specs.BoardSeats.{view, IsSeatOf}
use Rattle.test_search.proofs.boards.draw_all.Given as goal

abbrev pub invariant-loop-turn : goal.invariant-loop-turn
invariant-loop-turn l = record {
  own : IsSeatOf l.board l.seat;
  going : (view l.seat).ended ≡ false;
  kept : (view l.seat).first ≡ (view l.fn.seat).first;
}

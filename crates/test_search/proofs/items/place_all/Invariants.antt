use Rattle.shared.specs.SeenRule.{IsSameSeat}
use Rattle.shared.specs.SeenSeats.{view, IsSeatOf}
use Rattle.test_search.proofs.items.place_all.Given as goal

abbrev pub invariant-loop-position : goal.invariant-loop-position
invariant-loop-position g l = record {
  own : IsSeatOf g.S.PartialEq.eq l.seen l.seat;
  kept : IsSameSeat (view l.fn.seat) (view l.seat);
}

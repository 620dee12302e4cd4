use Rattle.shared.specs.SeenRule.{IsSameSeat}
use Rattle.shared.specs.SeenSeats.{view, IsSeatOf}
use Rattle.bench.proofs.positions.runs.place.Given as goal

abbrev pub invariant-loop-index : goal.invariant-loop-index
invariant-loop-index g l = record {
  own : IsSeatOf g.S.PartialEq.eq l.seen l.seat;
  kept : IsSameSeat (view l.fn.seat) (view l.seat);
}

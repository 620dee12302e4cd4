use Rattle.std.proofs.Common.{◌≡◌, ◌-◌, length}
use Rattle.std.specs.Prelude.{All}
use Rattle.shared.specs.BoardSeats.{view as board_view}
use Rattle.shared.specs.SeenSeats.{view}
use Rattle.search_layer.specs.internal.Work.{AreFirstSeats, AreSeatsOf, IsFresh, IsReady}
use Rattle.search_layer.proofs.workers.Work.make_workers.Given as goal

abbrev pub invariant-loop-number : goal.invariant-loop-number
invariant-loop-number g l = record {
  own : AreSeatsOf g.Y.State.PartialEq.eq l.self.seen.now l.self.board.now l.seat l.draws;
  first : AreFirstSeats (l.count - l.number) 1 (view l.seat) (board_view l.draws);
  fresh : IsFresh (view l.seat) (board_view l.draws);
  count : length l.workers.items ≡ l.number;
  ready : All (IsReady g.Y.State.PartialEq.eq l.self.seen.now l.self.board.now) l.workers.items;
}

use Rattle.std.proofs.Common.{◌≡◌, ℕ, ◌-◌, ◌<◌, ◌≤◌, false, length}
use Rattle.std.specs.Option.{option_eq}
use Rattle.shared.specs.BoardSeats.{view as board_view, IsSeatOf as IsBoardSeatOf}
use Rattle.shared.specs.SeenRule.{IsSameSeat}
use Rattle.shared.specs.SeenSeats.{view, IsSeatOf}
use Rattle.shared.specs.Totals.{times, Stands}
use Rattle.search_layer.specs.internal.Search.{with_steps}
use Rattle.search_layer.specs.internal.Work.{have_same_state, in_pieces, or_none, HasPlaced, IsSameBoardSeat}
use Rattle.search_layer.proofs.workers.Work.take_pieces.Given as goal

abbrev pub invariant-loop-alloc : goal.invariant-loop-alloc
invariant-loop-alloc g l = record {
  own : IsSeatOf (have_same_state (option_eq g.Y.State.PartialEq.eq)) l.self.seen.now l.seat;
  own-board : IsBoardSeatOf l.self.board.now l.draws;
  kept : IsSameSeat (view l.fn.seat) (view l.seat);
  kept_board : IsSameBoardSeat (board_view l.fn.draws) (board_view l.draws);
  going : (board_view l.draws).ended ≡ false;
  low : (x : ℕ) → Stands x (board_view l.draws).drawn → x < l.self.pieces;
  once : (x : ℕ) → times x (board_view l.draws).drawn ≤ 1;
  placed : HasPlaced (option_eq g.Y.State.PartialEq.eq) (or_none l.self.visited.now.keys) l.self.candidates.now l.self.size (board_view l.draws).drawn (view l.seat).placed;
  summary : l.summary ≡ with_steps g.U.Summary.joins (g.U.Summary.observation l.self.system.now) (g.Y.System.graph l.self.system.now) l.self.visited.now.keys g.U.Summary.joins.none
      (in_pieces l.self.size l.self.candidates.now (board_view l.draws).drawn);
}

abbrev pub decreases-loop-alloc : goal.decreases-loop-alloc
decreases-loop-alloc g l = l.self.pieces - length (board_view l.draws).drawn

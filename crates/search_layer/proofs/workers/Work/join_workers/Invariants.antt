use Rattle.std.proofs.Common.{◌≡◌, ◌+◌, ◌<◌, false, length}
use Rattle.std.specs.Option.{option_eq}
use Rattle.shared.specs.BoardSeats.{view as board_view}
use Rattle.shared.specs.SeenSeats.{view}
use Rattle.search_layer.specs.internal.Search.{with_steps}
use Rattle.search_layer.specs.internal.Work.{in_pieces, or_none, AreFirstSeats, AreSeatsOf, HasPlaced}
use Rattle.search_layer.proofs.workers.Work.join_workers.Given as goal

abbrev pub invariant-loop-worked : goal.invariant-loop-worked
invariant-loop-worked g l = record {
  own : AreSeatsOf g.Y.State.PartialEq.eq l.self.seen.now l.self.board.now l.seat l.draws;
  first : AreFirstSeats 0 (1 + length l.yielded) (view l.seat) (board_view l.draws);
  ends : (board_view l.draws).saw ≡ false → 0 < length l.yielded → 0 < (board_view l.draws).ends;
  placed : (board_view l.draws).saw ≡ false → HasPlaced (option_eq g.Y.State.PartialEq.eq) (or_none l.self.visited.now.keys) l.self.candidates.now l.self.size (board_view l.draws).drawn (view l.seat).placed;
  summary : l.summary ≡ with_steps g.U.Summary.joins (g.U.Summary.observation l.self.system.now) (g.Y.System.graph l.self.system.now) l.self.visited.now.keys g.U.Summary.joins.none
      (in_pieces l.self.size l.self.candidates.now (board_view l.draws).drawn);
}

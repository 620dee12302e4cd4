use Rattle.std.proofs.Common.{◌≡◌, ◌-◌, take, drop}
use Rattle.std.specs.Option.{option_eq}
use Rattle.shared.specs.SeenRule.{IsSameSeat}
use Rattle.shared.specs.SeenSeats.{view, IsSeatOf}
use Rattle.search_layer.specs.internal.Search.{with_steps}
use Rattle.search_layer.specs.internal.Work.{have_same_state, or_none, AddsNew}
use Rattle.search_layer.proofs.workers.Work.take_piece.Given as goal

abbrev pub invariant-loop-at : goal.invariant-loop-at
invariant-loop-at g l = record {
  own : IsSeatOf (have_same_state (option_eq g.Y.State.PartialEq.eq)) l.self.seen.now l.seat;
  kept : IsSameSeat (view l.fn.seat) (view l.seat);
  placed : AddsNew (option_eq g.Y.State.PartialEq.eq) (or_none l.self.visited.now.keys) l.self.candidates.now l.from l.at (view l.fn.seat).placed (view l.seat).placed;
  summary : l.summary ≡ with_steps g.U.Summary.joins (g.U.Summary.observation l.self.system.now) (g.Y.System.graph l.self.system.now) l.self.visited.now.keys l.fn.summary
      (take (l.at - l.from) (drop l.from l.self.candidates.now));
}

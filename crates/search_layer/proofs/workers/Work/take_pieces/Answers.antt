use Rattle.std.proofs.Common.{ℕ, ◌≡◌, ◌<◌, ◌-◌, ◌∷◌, [], length, ap, sym, subst, ◌∙◌, length-append, arith}
use Rattle.std.specs.Option.{option_eq}
use Rattle.shared.specs.BoardSeats.{view as board_view}
use Rattle.shared.specs.BoardRule.{with_drawn, with_end, with_look}
use Rattle.shared.specs.SeenSeats.{view}
use Rattle.shared.specs.Totals.{Stands}
use Rattle.shared.specs.declared.board.view.BoardView.{BoardView}
use Rattle.search_layer.specs.internal.Work.{in_pieces, or_none, HasPlaced}
use Rattle.search_layer.specs.internal.Search.{with_steps}
use Rattle.search_layer.proofs.Drawing.{few, low-more, same-seat-then}
use Rattle.search_layer.proofs.Placing.{piece-placed}
use Rattle.search_layer.proofs.StepSums.{piece-more}
use Rattle.search_layer.proofs.workers.Work.take_pieces.Given.{Over}
use Rattle.search_layer.proofs.workers.Work.take_pieces.Goals as goal
use Rattle.search_layer.proofs.workers.Work.take_pieces.Goals.{In-Some}

-- what the seat knows after the draw
looked : (g : Over) (c : In-Some g) → board_view c.draw.new.seat ≡ with_drawn (with_look (board_view c.loop-alloc.draws) c.raised.result) c.in-Some.piece
looked g c = c.in-Some.ensures.drawn ∙ ap (λ v. with_drawn v c.in-Some.piece) c.raised.ensures.seen

drawn-low : (g : Over) (c : In-Some g) → (x : ℕ) → Stands x (board_view c.draw.new.seat).drawn → x < c.args.self.now.pieces
drawn-low g c x has =
    let drawn = ap (λ (v : BoardView). v.drawn) (looked g c) in
    let below = subst (λ n. c.in-Some.piece < n) c.args.self.now.numbers c.in-Some.ensures.below in
    low-more c.args.self.now.pieces c.in-Some.piece (board_view c.loop-alloc.draws).drawn below c.loop-alloc.invariant.low x (subst (λ ds. Stands x ds) drawn has)

fewer-left : (g : Over) (c : In-Some g) → c.args.self.now.pieces - length (board_view c.draw.new.seat).drawn < c.args.self.now.pieces - length (board_view c.loop-alloc.draws).drawn
fewer-left g c =
    let drawn = ap (λ (v : BoardView). length v.drawn) (looked g c) in
    let more = length-append (board_view c.loop-alloc.draws).drawn (c.in-Some.piece ∷ []) in
    let most = few c.args.self.now.pieces (board_view c.draw.new.seat).drawn c.in-Some.ensures.once (drawn-low g c) in
    omega arith

pub loop-alloc-smaller : goal.loop-alloc-smaller
loop-alloc-smaller g c = fewer-left g (goal.at.loop-alloc-smaller g c).In-Some

pub loop-alloc-preserved : goal.loop-alloc-preserved
loop-alloc-preserved g c =
    let eq = option_eq g.Y.State.PartialEq.eq in
    let known = c.args.self.now.visited.now.keys in
    let cs = c.args.self.now.candidates.now in
    let size = c.args.self.now.size in
    let system = c.args.self.now.system.now in
    let at = (goal.at.loop-alloc-preserved g c).In-Some in
    let e = looked g at in
    let drawn = ap (λ (v : BoardView). v.drawn) e in
    let before = (board_view c.loop-alloc.draws).drawn in
    let kept = c.loop-alloc.invariant.kept_board in
    record {
      own = c.take_piece.ensures.own;
      own-board = c.draw.ensures.own;
      kept = same-seat-then (view c.args.seat.now) (view c.loop-alloc.seat) (view c.take_piece.new.seat) c.loop-alloc.invariant.kept c.take_piece.ensures.kept;
      kept_board = record {
        first = ap (λ (v : BoardView). v.first) e ∙ kept.first;
        left = ap (λ (v : BoardView). v.left) e ∙ kept.left;
        parts = ap (λ (v : BoardView). v.parts) e ∙ kept.parts;
      };
      going = ap (λ (v : BoardView). v.ended) e ∙ c.loop-alloc.invariant.going;
      low = drawn-low g at;
      once = c.in-Some.ensures.once;
      placed = subst (λ ds. HasPlaced eq (or_none known) cs size ds (view c.take_piece.new.seat).placed) (sym drawn)
          (piece-placed eq (or_none known) cs size c.in-Some.piece before (view c.loop-alloc.seat).placed (view c.take_piece.new.seat).placed c.args.self.now.some
          c.loop-alloc.invariant.placed c.in_ok-summary-in-Some.ensures.placed);
      summary =
          piece-more g.U.Summary.joins (g.U.Summary.observation system) (g.Y.System.graph system) known size cs before c.in-Some.piece c.loop-alloc.summary c.in_ok-summary-in-Some.summary
          c.loop-alloc.invariant.summary c.in_ok-summary-in-Some.ensures.summary
          ∙ ap (λ ds. with_steps g.U.Summary.joins (g.U.Summary.observation system) (g.Y.System.graph system) known g.U.Summary.joins.none (in_pieces size cs ds)) (sym drawn);
    }

pub returns-in-None-clause-placed : goal.returns-in-None-clause-placed
returns-in-None-clause-placed g c = λ saw.
    let eq = option_eq g.Y.State.PartialEq.eq in
    let known = or_none c.args.self.now.visited.now.keys in
    let e = c.in-None.ensures.ended ∙ ap with_end c.raised.ensures.seen in
    let drawn = ap (λ (v : BoardView). v.drawn) e in (
      (let ends = ap (λ (v : BoardView). v.ends) e in omega arith),
      subst (λ ds. HasPlaced eq known c.args.self.now.candidates.now c.args.self.now.size ds (view c.loop-alloc.seat).placed) (sym drawn) c.loop-alloc.invariant.placed,
    )

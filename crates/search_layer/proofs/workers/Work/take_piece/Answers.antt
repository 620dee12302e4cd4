use Rattle.std.proofs.Common.{◌+◌, ◌*◌, ◌-◌, ◌<◌, ◌≡◌, length, slice_get, ap, subst, ◌∙◌, arith}
use Rattle.std.proofs.lemmas.List.{get_or_default}
use mathlib.Core.Logic.{dite}
use native.Mathlib.Decide.{dec_le}
use Rattle.std.specs.Option.{option_eq}
use Rattle.shared.specs.SeenSeats.{view}
use Rattle.search_layer.specs.internal.Work.{or_none, AddsNew}
use Rattle.search_layer.proofs.Drawing.{same-seat-then}
use Rattle.search_layer.proofs.Placing.{then-placed, placed-further}
use Rattle.search_layer.proofs.StepSums.{step-more}
use Rattle.search_layer.proofs.workers.Work.take_piece.Goals as goal

pub loop-at-preserved : goal.loop-at-preserved
loop-at-preserved g c =
    let eq = option_eq g.Y.State.PartialEq.eq in
    let known = or_none c.args.self.now.visited.now.keys in
    let cs = c.args.self.now.candidates.now in
    let from = c.args.piece * c.args.self.now.size in
    let system = c.args.self.now.system.now in
    record {
      own = c.place.ensures.own;
      kept = same-seat-then (view c.args.seat.now) (view c.loop-at.seat) (view c.place.new.seat) c.loop-at.invariant.kept c.place.ensures.kept;
      placed = then-placed eq known cs from c.loop-at.at (c.loop-at.at + 1) _ _ _ (omega arith) (omega arith) c.loop-at.invariant.placed c.place.ensures.placed;
      summary = step-more g.U.Summary.joins (g.U.Summary.observation system) (g.Y.System.graph system) c.args.self.now.visited.now.keys c.args.summary c.loop-at.summary c.in_ok-summary.summary cs from c.loop-at.at
          (omega arith) (omega arith) c.loop-at.invariant.summary c.in_ok-summary.ensures;
    }

pub returns-clause-placed : goal.returns-clause-placed
returns-clause-placed g c =
    let eq = option_eq g.Y.State.PartialEq.eq in
    let known = or_none c.args.self.now.visited.now.keys in
    let cs = c.args.self.now.candidates.now in
    let from = c.args.piece * c.args.self.now.size in
    let to = from + c.args.self.now.size in
    let at : c.loop-at.at ≡ from + c.min.result = omega arith in
    dite (dec_le c.args.self.now.size (length cs - from))
    (λ whole.
    let end : c.loop-at.at ≡ to = omega (arith, c.min.ensures) in
    subst (λ n. AddsNew eq known cs from n (view c.args.seat.now).placed (view c.loop-at.seat).placed) end c.loop-at.invariant.placed)
    (λ last. placed-further eq known cs from c.loop-at.at to (view c.args.seat.now).placed (view c.loop-at.seat).placed (omega (arith, c.min.ensures)) (omega (arith, c.min.ensures)) c.loop-at.invariant.placed)

pub place-requires-clause-shard : goal.place-requires-clause-shard
place-requires-clause-shard g c κs within = λ candidate state there given.
    let from = c.args.piece * c.args.self.now.size in
    let at = c.loop-at.at in
    let shards = c.in_ok-shards.shards.items in
    let count = c.in_ok-shards.ensures.count in
    let low : at - from < length shards = omega arith in
    let place : from + (at - from) ≡ at = omega arith in
    c.index.ensures ∙ get_or_default shards (at - from) c.index.result.now 0 low
    ∙ c.in_ok-shards.ensures.each (at - from) low candidate state (ap (slice_get c.args.self.now.candidates.now) place ∙ there) given

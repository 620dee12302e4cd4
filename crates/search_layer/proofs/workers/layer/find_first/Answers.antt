use Rattle.std.proofs.Common.{ℕ, ◌≡◌, ◌<◌, ◌+◌, false, length, subst, ◌∙◌, arith}
use Rattle.std.specs.Cmp.Lexicographic.{options_equiv}
use Rattle.std.specs.Option.{option_eq}
use Rattle.shared.specs.BoardSeats.{view as board_view}
use Rattle.shared.specs.Classes.{IsFirsts}
use Rattle.shared.specs.SeenSeats.{view}
use Rattle.shared.specs.Totals.{Stands}
use Rattle.search_layer.specs.internal.Work.{have_same_state, or_none}
use Rattle.search_layer.proofs.AllWorked.{are-first, all-shown, false-unless, piece-begins, piece-within}
use Rattle.search_layer.proofs.Thinned.{first-of-all, thinned-shown}
use Rattle.search_layer.proofs.workers.layer.find_first.Given.{Over}
use Rattle.search_layer.proofs.workers.layer.find_first.Goals as goal
use Rattle.search_layer.proofs.workers.layer.find_first.Goals.{Else-has_stopped}

pub invariant_of-share_work-clause-cut : goal.invariant_of-share_work-clause-cut
invariant_of-share_work-clause-cut g c =
    piece-begins (length c.args.candidates.now) c.args.plan.now.piece c.div_ceil-pieces.result c.requires.plan.piece_low c.div_ceil-pieces.ensures

unseen : (g : Over) (c : Else-has_stopped g) → (board_view c.share_work.new.draws).saw ≡ false
unseen g c = false-unless (board_view c.share_work.new.draws).saw (λ saw. let e = c.finish-has_stopped.ensures.saw saw in let f = c.if-has_stopped.false in absurd (cc))

drawn : (g : Over) (c : Else-has_stopped g) → (k : ℕ) → k < c.div_ceil-pieces.result → Stands k (board_view c.share_work.new.draws).drawn
drawn g c k low =
    let sizes = c.in_ok-board.ensures.sizes in
    let first = c.in_ok-shown.ensures.first in
    let seats = c.in_ok-shown.ensures.own.1.2 in
    let joined : (board_view c.share_work.new.draws).parts + (board_view c.share_work.new.draws).left ≡ (board_view c.share_work.new.draws).seats =
    (let a = first.board_parts in let b = first.board_left in let d = sizes.1 in omega arith) in
    let once = c.finish-has_stopped.ensures.each joined (c.in_ok-shown.ensures.placed (unseen g c)).0 k (let e = sizes.0 in omega arith) in
    omega arith

pub returns-clause-first : goal.returns-clause-first
returns-clause-first g c = λ all thinned.
    let eq = g.Y.State.PartialEq.eq in
    let known = c.args.visited.now.keys in
    let cs = c.args.candidates.now in
    let at = (goal.at.returns-clause-first g c).Else-has_stopped in
    let laws = (g.met.Y.State.Eq g.world.𝓛 g.world.𝓜 g.world.𝓡 ((λ s x. x), (λ x. x), (λ x. x), λ x. x)).laws in
    first-of-all eq known all cs thinned laws c.in_ok-positions.positions.items
    (are-first (option_eq eq) (options_equiv laws) (or_none known) cs c.args.plan.now.piece c.div_ceil-pieces.result (board_view c.share_work.new.draws).drawn
    c.requires.plan.piece_low (drawn g at) (piece-within (length cs) c.args.plan.now.piece c.div_ceil-pieces.result c.requires.plan.piece_low c.div_ceil-pieces.ensures)
    (view c.share_work.new.seat).placed c.in_ok-positions.positions.items
    (c.in_ok-shown.ensures.placed (unseen g at)).1
    (subst (λ items. IsFirsts (have_same_state (option_eq eq)) items (view c.share_work.new.seat).placed c.in_ok-positions.positions.items) c.in_ok-seen.ensures.items c.in_ok-positions.ensures.firsts))

pub returns-clause-summary : goal.returns-clause-summary
returns-clause-summary g c = λ all thinned.
    let eq = g.Y.State.PartialEq.eq in
    let known = c.args.visited.now.keys in
    let system = c.args.system.now in
    let cs = c.args.candidates.now in
    let at = (goal.at.returns-clause-summary g c).Else-has_stopped in
    let laws = (g.met.Y.State.Eq g.world.𝓛 g.world.𝓜 g.world.𝓡 ((λ s x. x), (λ x. x), (λ x. x), λ x. x)).laws in
    let semilattice = (g.met.U.Summary g.world.𝓛 g.world.𝓜 g.world.𝓡 ((λ s x. x), (λ x. x), (λ x. x), λ x. x)).semilattice in
    c.in_ok-shown.ensures.summary
    ∙ all-shown (option_eq eq) (options_equiv laws) (or_none known) cs c.args.plan.now.piece c.div_ceil-pieces.result (board_view c.share_work.new.draws).drawn
    c.requires.plan.piece_low (drawn g at) (piece-within (length cs) c.args.plan.now.piece c.div_ceil-pieces.result c.requires.plan.piece_low c.div_ceil-pieces.ensures)
    g.U.Summary.joins (g.U.Summary.observation system) (g.Y.System.graph system) known semilattice
    ∙ thinned-shown eq known all cs thinned g.U.Summary.joins (g.U.Summary.observation system) (g.Y.System.graph system) known g.U.Summary.joins.none

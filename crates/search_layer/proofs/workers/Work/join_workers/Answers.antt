use Rattle.std.proofs.Common.{◌≡◌, ◌++◌, ◌∷◌, [], false, ap, sym, subst, ◌∙◌, length-append, arith}
use Rattle.std.specs.Prelude.{IfOk, All}
use Rattle.std.proofs.iter.Next.{Yields-more}
use Rattle.std.proofs.lemmas.List.Elements.{All-contains, Contains-append_left, Contains-push}
use Rattle.std.specs.Vec.Iter.{into_iter_items, into_iter_steps}
use Rattle.std.specs.Option.{option_eq}
use Rattle.summary.specs.Sums.{IsSemilattice}
use Rattle.shared.specs.BoardSeats.{view as board_view}
use Rattle.shared.specs.SeenSeats.{view}
use Rattle.shared.specs.declared.board.view.BoardView.{BoardView}
use Rattle.shared.specs.declared.seen.view.SeenView.{SeenView}
use Rattle.search_layer.specs.declared.workers.Worked.{Worked}
use Rattle.search_layer.specs.internal.Search.{with_steps}
use Rattle.search_layer.specs.internal.Work.{in_pieces, or_none, HasPlaced, IsDone}
use Rattle.search_layer.proofs.Joining.{neither, joined-placed, joined-shown}
use Rattle.search_layer.proofs.Taken.{front-taken}
use Rattle.search_layer.proofs.workers.Work.join_workers.Given.{Over}
use Rattle.search_layer.proofs.workers.Work.join_workers.Goals as goal
use Rattle.search_layer.proofs.workers.Work.join_workers.Goals.{In-Some}

semilattice : (g : Over) → IsSemilattice g.U.Summary.joins
semilattice g = (g.met.U.Summary g.world.𝓛 g.world.𝓜 g.world.𝓡 ((λ s x. x), (λ x. x), (λ x. x), λ x. x)).semilattice

worked-done : (g : Over) (c : In-Some g) → IsDone g.Y.State.PartialEq.eq c.args.self.now.seen.now c.args.self.now.board.now g.U.Summary.joins (g.U.Summary.observation c.args.self.now.system.now) (g.Y.System.graph c.args.self.now.system.now)
    c.args.self.now.visited.now.keys c.args.self.now.candidates.now c.args.self.now.size c.in-Some.worked
worked-done g c =
    let P : Worked g.row.U.Denot → Type 0 = λ w. IsDone g.Y.State.PartialEq.eq c.args.self.now.seen.now c.args.self.now.board.now g.U.Summary.joins (g.U.Summary.observation c.args.self.now.system.now) (g.Y.System.graph c.args.self.now.system.now)
    c.args.self.now.visited.now.keys c.args.self.now.candidates.now c.args.self.now.size w in
    let start = c.into_iter-worked-iterator.result in
    let more = Yields-more into_iter_steps start c.loop-worked.yielded c.loop-worked.worked-iterator c.in-Some.worked c.next.new.self c.loop-worked.yielded_by c.in-Some.ensures.steps in
    let items = sym c.into_iter-worked-iterator.ensures.into_iter_gives.0 ∙ front-taken start (c.loop-worked.yielded ++ c.in-Some.worked ∷ []) c.next.new.self more in
    let there = Contains-append_left (c.loop-worked.yielded ++ c.in-Some.worked ∷ []) (into_iter_items c.next.new.self) c.in-Some.worked (Contains-push c.loop-worked.yielded c.in-Some.worked) in
    All-contains P ((c.loop-worked.yielded ++ c.in-Some.worked ∷ []) ++ into_iter_items c.next.new.self) c.in-Some.worked (subst (All P) items c.requires.done) there

pub loop-worked-preserved : goal.loop-worked-preserved
loop-worked-preserved g c =
    let eq = option_eq g.Y.State.PartialEq.eq in
    let known = c.args.self.now.visited.now.keys in
    let cs = c.args.self.now.candidates.now in
    let size = c.args.self.now.size in
    let system = c.args.self.now.system.now in
    let joins = g.U.Summary.joins in
    let observation = g.U.Summary.observation system in
    let graph = g.Y.System.graph system in
    let done = worked-done g (goal.at.loop-worked-preserved g c).In-Some in
    let v = view c.loop-worked.seat in
    let w = board_view c.loop-worked.draws in
    let v' = view c.in-Some.worked.worker.seen in
    let w' = board_view c.in-Some.worked.worker.board in
    let e = c.join.ensures.joined in
    let f = c.join-in-loop-worked.ensures.joined in
    let inv = c.loop-worked.invariant in
    let count = length-append c.loop-worked.yielded (c.in-Some.worked ∷ []) in
    let unseen = λ (saw : (board_view c.join-in-loop-worked.new.seat).saw ≡ false). neither w.saw w'.saw (sym (ap (λ (x : BoardView). x.saw) f) ∙ saw) in
    let placed-is = ap (λ (x : SeenView). x.placed) e in
    let drawn_is = ap (λ (x : BoardView). x.drawn) f in
    record {
      own = (c.join.ensures.own, c.join-in-loop-worked.ensures.own);
      first = record {
        seen_first = ap (λ (x : SeenView). x.first) e ∙ inv.first.seen_first;
        seen_left = ap (λ (x : SeenView). x.left) e ∙ inv.first.seen_left;
        seen_parts = (let p = ap (λ (x : SeenView). x.parts) e in let q = inv.first.seen_parts in let r = done.seen_parts in omega arith);
        board_first = ap (λ (x : BoardView). x.first) f ∙ inv.first.board_first;
        board_left = ap (λ (x : BoardView). x.left) f ∙ inv.first.board_left;
        board_parts = (let p = ap (λ (x : BoardView). x.parts) f in let q = inv.first.board_parts in let r = done.board_parts in omega arith);
      };
      ends = λ saw some. (let d = (done.placed (unseen saw).1).0 in let p = ap (λ (x : BoardView). x.ends) f in omega arith);
      placed = λ saw.
          (let h = joined-placed eq (or_none known) cs size w.drawn w'.drawn v.placed v'.placed (inv.placed (unseen saw).0) ((done.placed (unseen saw).1).1) in
          subst (λ ds. HasPlaced eq (or_none known) cs size ds (view c.join.new.seat).placed) (sym drawn_is)
          (subst (λ xs. HasPlaced eq (or_none known) cs size (w.drawn ++ w'.drawn) xs) (sym placed-is) h));
      summary =
          joined-shown joins observation graph known (semilattice g) size cs w.drawn w'.drawn c.loop-worked.summary c.in_ok-shown.field-0 c.in_ok-summary-2.summary
          inv.summary (subst (λ o. IfOk o (λ s. s ≡ with_steps joins observation graph known joins.none (in_pieces size cs w'.drawn))) c.in_ok-shown.was done.summary) c.in_ok-summary-2.ensures
          ∙ ap (λ ds. with_steps joins observation graph known joins.none (in_pieces size cs ds)) (sym drawn_is);
    }

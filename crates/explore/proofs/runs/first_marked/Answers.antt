use Rattle.std.proofs.Common.{◌≡◌, ◌+◌, ◌<◌, ◌++◌, ◌∷◌, [], take, length, length, not, sym, ap, ◌∙◌, length-take, arith}
use Rattle.std.specs.Prelude.{Some}
use Rattle.std.proofs.lemmas.List.{take_more}
use Rattle.std.proofs.lemmas.Option.{get_or_from_slice_get}
use Rattle.explore.proofs.FirstPlaces.{unmarked-more, known-more, first-more}
use Rattle.explore.proofs.runs.first_marked.Goals as goal
use Rattle.explore.proofs.runs.first_marked.Goals.{in-Some+then-is_none, in-Some+else-is_none, in_default}

pub loop-place-preserved : goal.loop-place-preserved
loop-place-preserved g c =
    let graph = g.Y.System.graph c.args.system.now in
    let states = c.args.states.now.keys in
    let at = c.loop-place.place in
    let state = c.index.result.now in
    let places = c.loop-place.places in
    let before = c.loop-place.invariant in
    let low : at < length states = (let test = c.loop-place-test.true in let len = c.len-place-end.ensures.len in omega arith) in
    let front : take (at + 1) states ≡ take at states ++ state ∷ [] =
    take_more states at state low ∙ ap (λ s. take at states ++ s ∷ []) (get_or_from_slice_get states at state state c.index.ensures) in
    let count : length (take at states) ≡ at = omega (arith, length-take at states, low) in
    rw front (elim c.match-mark_of.branch [
      | in-Some+then-is_none w ↦
          let marked = sym c.mark_of.ensures.is ∙ w.in-Some.is ∙ ap Some (sym w.from-mark.ensures) in
          rw w.places-is (first-more graph (take at states) state places w.from-mark.result at count marked (w.is_none.ensures ∙ ap not w.if-is_none.true) before)
      | in-Some+else-is_none w ↦
          let marked = sym c.mark_of.ensures.is ∙ w.in-Some.is ∙ ap Some (sym w.from-mark.ensures) in
          rw w.places-is (known-more graph (take at states) state places w.from-mark.result marked (w.is_none.ensures ∙ ap not w.if-is_none.false) before)
      | in_default w ↦
          rw w.places-is (unmarked-more graph (take at states) state places (λ mark e. w.in_default.not-Some mark (c.mark_of.ensures.is ∙ e)) before)
    ])

use Rattle.std.proofs.Common.{◌≡◌, ◌+◌, ◌<◌, ◌++◌, ◌∷◌, [], take, length, sym, ap, ◌∙◌, length-take, arith}
use Rattle.std.proofs.lemmas.List.{take_more}
use Rattle.std.proofs.lemmas.Option.{get_or_from_slice_get}
use Rattle.explore.proofs.Noting.{states-push}
use Rattle.explore.specs.internal.Noting.{note, note_states}
use Rattle.explore.proofs.sightings.noted_states.Goals as goal

pub loop-place-preserved : goal.loop-place-preserved
loop-place-preserved g c =
    let eq = g.Y.Stand.PartialEq.eq in
    let stand = g.Y.Watched.stand c.args.system.now in
    let states = c.args.states.now.keys in
    let at = c.loop-place.place in
    let state = c.index.result.now in
    let low : at < length states = (let test = c.loop-place-test.true in let len = c.len-place-end.ensures.len in omega arith) in
    let front : take at states ++ state ∷ [] ≡ take (at + 1) states =
    ap (λ s. take at states ++ s ∷ []) (sym (get_or_from_slice_get states at state state c.index.ensures)) ∙ sym (take_more states at state low) in
    let count : at ≡ 0 + length (take at states) = omega (arith, length-take at states, low) in
    c.in_ok-note.ensures
    ∙ (λ i. note eq (c.in_ok-stand.ensures i) (count i) (c.loop-place.invariant i))
    ∙ sym (states-push eq stand 0 (take at states) state [])
    ∙ ap (λ xs. note_states eq stand 0 xs []) front

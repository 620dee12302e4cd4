use Rattle.std.proofs.Common.{◌≡◌, ◌+◌, ◌<◌, ◌++◌, ◌∷◌, [], take, length, sym, ap, ◌∙◌, length-take, arith}
use Rattle.std.proofs.lemmas.List.{take_more}
use Rattle.std.proofs.lemmas.Option.{get_or_from_slice_get}
use Rattle.explore.proofs.Noting.{shown-labels, steps-push}
use Rattle.explore.specs.internal.Noting.{note_labels, note_shown, note_steps}
use Rattle.explore.proofs.sightings.noted_steps.Goals as goal

pub loop-place-preserved : goal.loop-place-preserved
loop-place-preserved g c =
    let graph = g.Y.System.graph c.args.system.now in
    let eq = g.Y.Event.PartialEq.eq in
    let event = g.Y.Watched.event c.args.system.now in
    let states = c.args.states.now.keys in
    let at = c.loop-place.place in
    let state = c.index.result.now in
    let low : at < length states = (let test = c.loop-place-test.true in let within = c.requires.to in omega arith) in
    let front : take at states ++ state ∷ [] ≡ take (at + 1) states =
    ap (λ s. take at states ++ s ∷ []) (sym (get_or_from_slice_get states at state state c.index.ensures)) ∙ sym (take_more states at state low) in
    let count : at ≡ 0 + length (take at states) = omega (arith, length-take at states, low) in
    let before = c.loop-place.noted.items in
    c.in_ok-note_shown.ensures
    ∙ (λ i. note_shown eq (c.in_ok-number.ensures i) (c.in_ok-shown.ensures i) before)
    ∙ shown-labels graph eq event at state (graph.enabled state) before
    ∙ (λ i. note_labels graph eq event (count i) state (graph.enabled state) (c.loop-place.invariant i))
    ∙ sym (steps-push graph eq event 0 (take at states) state [])
    ∙ ap (λ xs. note_steps graph eq event 0 xs []) front

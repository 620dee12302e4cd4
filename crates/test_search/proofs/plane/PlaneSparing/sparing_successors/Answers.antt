use Rattle.std.proofs.Common.{◌≡◌, ◌<◌, ◌++◌, ◌∷◌, [], List, ap, arith, map, subst, sym, ◌∙◌}
use Rattle.std.proofs.lemmas.Bool.Decides.{nat_tests}
use Rattle.std.proofs.lemmas.Iterator.Adapters.{YieldsList-from_vec}
use Rattle.std.proofs.lemmas.Iterator.Consumers.{YieldsList-turn}
use Rattle.std.proofs.lemmas.List.{map-append}
use Rattle.std.proofs.lemmas.List.Elements.{All-push}
use Rattle.std.specs.List.{All}
use Rattle.std.specs.Ordering.{nat_cmp}
use Rattle.std.specs.Prelude.{Contains, None, Option, ℕ}
use Rattle.test_search.proofs.Ways.{late-down}
use Rattle.search_layer.specs.Late.{IsSpared}
use Rattle.test_search.specs.Plane.{plane}
use Rattle.test_search.proofs.plane.PlaneSparing.sparing_successors.Goals as goal

pub loop-label-preserved-in-Continue-branch-2 : goal.loop-label-preserved-in-Continue-branch-2
loop-label-preserved-in-Continue-branch-2 c =
    let before = c.args._before.now in
    let last = c.args.last.now in
    let state = c.args.state.now in
    let label = c.in-Some.label in
    let left_out : ℕ × Option ℕ = (label, None) in
    let items = c.in_ok-label-items.label-items.items in
    let turn = YieldsList-turn (YieldsList-from_vec {s = c.into_iter-label-iterator.result} items (cc) (cc)) c.loop-label.yielded c.loop-label.label-iterator c.loop-label.yielded_by
    c.next.result c.next.new.self label c.in-Some.is c.next.ensures.steps in
    let enabled : Contains (plane.enabled state) label = subst (λ (labels : List ℕ). Contains labels label) c.in_ok-label-items.ensures (_, turn.0, sym turn.1) in
    let first : ℕ × Option ℕ → ℕ = λ p. p.0 in (
      ap (map first) c.in_ok-push.ensures.items ∙ map-append first c.loop-label.found.items (left_out ∷ []) ∙ ap (λ labels. labels ++ label ∷ []) c.loop-label.invariant.0,
      subst (All (IsSpared plane nat_cmp before last state)) (sym c.in_ok-push.ensures.items)
          (All-push (IsSpared plane nat_cmp before last state) c.loop-label.found.items left_out c.loop-label.invariant.1
          (late-down before last state label (grind (arith, nat_tests, c.if-label-last.true)) c.requires.enabled c.requires.behind enabled)),
    )

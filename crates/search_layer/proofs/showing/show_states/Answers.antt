use Rattle.std.proofs.Common.{◌≡◌, ◌≤◌, ◌<◌, ◌+◌, ◌*◌, ◌/◌, ◌%◌, length, map, drop, ap, sym, subst, ◌∙◌, arith}
use Rattle.std.specs.Prelude.{min}
use Rattle.std.specs.Fork.{slice_chunk}
use Rattle.std.proofs.lemmas.Grind.{div_ceil_times}
use Rattle.std.proofs.lemmas.List.{length-drop}
use Rattle.rayon.proofs.ListFacts.{IfOk-then}
use Rattle.summary.specs.Sums.{IsSemilattice, join_all}
use Rattle.search_layer.proofs.StatesShown.{all-parts-shown, ok-parts, as_many}
use Rattle.search_layer.proofs.showing.show_states.Given.{Over}
use Rattle.search_layer.proofs.showing.show_states.Goals as goal

semilattice : (g : Over) → IsSemilattice g.U.Summary.joins
semilattice g = (g.met.U.Summary g.world.𝓛 g.world.𝓜 g.world.𝓡 ((λ s x. x), (λ x. x), (λ x. x), λ x. x)).semilattice

pub returns : goal.returns
returns g c =
    let joins = g.U.Summary.joins in
    let observation = g.U.Summary.observation c.args.system.now in
    let layer = drop c.args.from c.args.states.now.keys in
    let size = c.max-size.result in
    let parts = c.in_ok-parts.parts.items in
    IfOk-then c.join_parts.result _ _ c.join_parts.ensures (λ s h.
    let count : length h.0 ≡ length parts = as_many parts h.0 h.1 in
    let some : 0 < size = omega arith in
    let whole = length-drop c.args.from c.args.states.now.keys in
    let number : length h.0 ≡ length layer / size + min 1 (length layer % size) = count ∙ c.in_ok-parts.ensures.count ∙ ap (λ n. n / size + min 1 (n % size)) (sym whole) in
    let enough : length layer ≤ length h.0 * size = subst (λ n. length layer ≤ n * size) (sym number) ((div_ceil_times (length layer) size some).0) in
    h.2 ∙ all-parts-shown joins (semilattice g) observation size layer h.0 enough
    (λ p d low. ok-parts (λ p. join_all joins (map observation.at (slice_chunk layer size p))) parts h.0 h.1 c.in_ok-parts.ensures.each p d low))

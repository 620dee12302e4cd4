use Rattle.std.proofs.Common.{◌<◌, length, arith}
use Rattle.std.proofs.lemmas.Option.{get_or_from_slice_get}
use Rattle.summary.specs.Sums.{IsSemilattice}
use Rattle.search_layer.proofs.StatesShown.{state-more}
use Rattle.search_layer.proofs.showing.show_between.Given.{Over}
use Rattle.search_layer.proofs.showing.show_between.Goals as goal

semilattice : (g : Over) → IsSemilattice g.U.Summary.joins
semilattice g = (g.met.U.Summary g.world.𝓛 g.world.𝓜 g.world.𝓡 ((λ s x. x), (λ x. x), (λ x. x), λ x. x)).semilattice

pub loop-place-preserved : goal.loop-place-preserved
loop-place-preserved g c =
    let states = c.args.states.now.keys in
    let at = c.loop-place.place in
    let state = c.index.result.now in
    let low : at < length states = (let before = c.loop-place-test.true in let within = c.requires.places.1 in omega arith) in
    state-more g.U.Summary.joins (semilattice g) (g.U.Summary.observation c.args.system.now) c.loop-place.summary c.in_ok-shown.shown c.in_ok-summary-2.summary states c.args.from at state
    (omega arith) low (λ d. get_or_from_slice_get states at state d c.index.ensures)
    c.loop-place.invariant c.in_ok-shown.ensures c.in_ok-summary-2.ensures

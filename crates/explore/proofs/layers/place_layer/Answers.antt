use Rattle.std.proofs.Common.{◌≡◌, ◌<◌, ◌+◌, ◌++◌, length, map, drop, ap, sym, subst, ◌∙◌, arith}
use Rattle.std.specs.Cmp.{IsEquivalence}
use Rattle.std.specs.Prelude.{All}
use Rattle.std.proofs.Math.Seq.{drop-append_seam}
use Rattle.std.proofs.lemmas.Result.{err_from_is_err_and}
use Rattle.summary.specs.Sums.{IsSemilattice, join_all}
use Rattle.search_layer.specs.internal.Search.{Found, newly, state_of, with_steps, as_found}
use Rattle.search_layer.specs.internal.Work.{AreFirst}
use Rattle.search_layer.proofs.StepSums.{steps-join}
use Rattle.search_layer.proofs.SearchSteps.{place-all-fits}
use Rattle.search_layer.proofs.Newly.{all-placed, entered}
use Rattle.explore.proofs.Stopping.{length-with-new}
use Rattle.explore.proofs.layers.place_layer.Given.{Over}
use Rattle.explore.proofs.layers.place_layer.Goals as goal

equivalence : (g : Over) → IsEquivalence g.Y.State.PartialEq.eq
equivalence g = (g.met.Y.State.Eq g.world.𝓛 g.world.𝓜 g.world.𝓡 ((λ s x. x), (λ x. x), (λ x. x), λ x. x)).laws

semilattice : (g : Over) → IsSemilattice g.U.Summary.joins
semilattice g = (g.met.U.Summary g.world.𝓛 g.world.𝓜 g.world.𝓡 ((λ s x. x), (λ x. x), (λ x. x), λ x. x)).semilattice

pub enter_layer-requires-clause-first : goal.enter_layer-requires-clause-first
enter_layer-requires-clause-first g c κs within =
    let eq = g.Y.State.PartialEq.eq in
    let all = c.requires.candidates.0 in
    let are = c.requires.candidates.1 in
    (all, are.thin, subst (AreFirst eq c.args.explored.visited.states.keys all) (sym c.as_slice.ensures.value) are.first)

pub returns-in_err-visited-clause-room : goal.returns-in_err-visited-clause-room
returns-in_err-visited-clause-room g c many =
    let eq = g.Y.State.PartialEq.eq in
    let keys = c.args.explored.visited.states.keys in
    let all = c.requires.candidates.0 in
    let are = c.requires.candidates.1 in
    let firsts = c.args.firsts.positions.items in
    let p = err_from_is_err_and c.from_residual-in_err-visited.result c.from_residual-in_err-visited.ensures.1 in
    let first = subst (AreFirst eq keys all) (sym c.as_slice.ensures.value) are.first in
    let beyond : c.args.plan.now.limit < length (keys ++ map state_of (newly eq keys all)) = c.in_err-visited.ensures.too_many (cc (p.1, p.2, many)) all are.thin first in
    let whole : length (keys ++ map state_of (newly eq keys all)) ≡ length keys + length firsts = length-with-new eq (equivalence g) keys all firsts are.first in
    let room = c.requires.room in
    omega arith

pub show_states-requires-clause-fits : goal.show_states-requires-clause-fits
show_states-requires-clause-fits g c κs within =
    let joins = g.U.Summary.joins in
    let observation = g.U.Summary.observation c.args.system.now in
    let eq = g.Y.State.PartialEq.eq in
    let fits = g.Y.System.fits c.args.system.now in
    let keys = c.args.explored.visited.states.keys in
    let all = c.requires.candidates.0 in
    let are = c.requires.candidates.1 in
    let first = subst (AreFirst eq keys all) (sym c.as_slice.ensures.value) are.first in
    let found : Found _ _ _ = as_found keys c.args.explored.visited.steps 0 c.args.explored.summary in
    subst (All fits) (sym (c.in_ok-visited.ensures.states all are.thin first))
    (subst (λ (x : Found _ _ _). All fits x.states) (all-placed joins observation eq found all) (place-all-fits joins observation eq fits found all c.requires.states are.fits))

pub returns-clause-placed : goal.returns-clause-placed
returns-clause-placed g c all are from =
    let joins = g.U.Summary.joins in
    let observation = g.U.Summary.observation c.args.system.now in
    let graph = g.Y.System.graph c.args.system.now in
    let eq = g.Y.State.PartialEq.eq in
    let keys = c.args.explored.visited.states.keys in
    let news = map state_of (newly eq keys all) in
    let first = subst (AreFirst eq keys all) (sym c.as_slice.ensures.value) are.first in
    let states = c.in_ok-visited.ensures.states all are.thin first in
    let stepped : c.in_ok-summary.summary ≡ with_steps joins observation graph keys c.args.explored.summary all =
    c.in_ok-summary.ensures
    ∙ ap (joins.join c.args.explored.summary) are.shows
    ∙ sym (steps-join joins observation graph keys (semilattice g) c.args.explored.summary all) in
    let behind : drop c.len-from.result c.in_ok-visited.visited.states.keys ≡ news =
    (λ i. drop (c.len-from.ensures.len i) (states i)) ∙ drop-append_seam keys news in
    entered joins observation eq keys c.in_ok-visited.visited.states.keys c.args.explored.visited.steps c.in_ok-visited.visited.steps from
    (with_steps joins observation graph keys c.args.explored.summary all) c.in_ok-shown.shown c.in_ok-summary-2.summary all (semilattice g)
    states (c.in_ok-visited.ensures.steps all are.thin first)
    (c.in_ok-shown.ensures ∙ ap (λ xs. join_all joins (map observation.at xs)) behind)
    (c.in_ok-summary-2.ensures ∙ ap (λ s. joins.join s c.in_ok-shown.shown) stepped)

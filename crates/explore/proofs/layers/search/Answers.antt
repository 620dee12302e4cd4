use Rattle.std.proofs.Common.{true≢false, ◌≡◌, ◌≤◌, ◌<◌, ◌+◌, ℕ, suc, ap, sym, refl, subst, ◌∙◌, [], length, take, drop, arith}
use Rattle.std.specs.Cmp.{IsEquivalence}
use Rattle.std.specs.Prelude.{◌≢◌, All, List, Option, Some}
use Rattle.std.proofs.lemmas.List.{nil_from_length}
use Rattle.std.proofs.lemmas.List.Elements.{All-nil, All-cons, All-drop}
use Rattle.search_layer.specs.declared.visited.Candidate.{Candidate}
use Rattle.search_layer.specs.declared.visited.Step.{Step}
use Rattle.search_layer.specs.internal.Search.{Found, IsStep, found_after, layer_candidates, with_steps, as_found}
use Rattle.search_layer.specs.internal.Thinned.{AreThinned}
use Rattle.search_layer.proofs.SearchSteps.{layer-fits, place-all-fits, placed-grows, layer-done}
use Rattle.search_layer.proofs.Thinned.{same-length, steps-thinned}
use Rattle.summary.specs.Sums.{IsSemilattice}
use Rattle.explore.specs.internal.Expansion.{AreAll, AreKept, AreThinOf}
use Rattle.explore.proofs.Late.{are-kept, are-thinned}
use Rattle.explore.proofs.LayerSteps.{are-steps, steps-shown}
use Rattle.explore.proofs.Stopping.{beyond, ended-here, finishes, leads-on, still-unmarked, unmarked-both}
use Rattle.explore.proofs.Visits.{IsLawful}
use Rattle.explore.specs.declared.ending.Ending.TheVariants as ending
use Rattle.explore.specs.internal.Stopped.{IsEnd, IsUnmarked, at_limit, at_mark, all_done}
use Rattle.explore.proofs.layers.search.Given.{Over}
use Rattle.explore.proofs.layers.search.Goals as goal

equivalence : (g : Over) → IsEquivalence g.Y.State.PartialEq.eq
equivalence g = (g.met.Y.State.Eq g.world.𝓛 g.world.𝓜 g.world.𝓡 ((λ s x. x), (λ x. x), (λ x. x), λ x. x)).laws

-- the laws of the bound
lawful : (g : Over) (system : _) → IsLawful (g.Y.System.graph system) g.Y.Label.Ord.cmp g.Y.State.PartialEq.eq (g.Y.System.fits system)
lawful g system =
    let laws = g.met.Y.System g.world.𝓛 g.world.𝓜 g.world.𝓡 ((λ s x. x), (λ x. x), (λ x. x), λ x. x) in
    record {
      total = (g.met.Y.Label.Ord g.world.𝓛 g.world.𝓜 g.world.𝓡 ((λ s x. x), (λ x. x), (λ x. x), λ x. x)).total;
      itself = (equivalence g).refl;
      same = laws.same system;
      ascending = laws.ascending system;
      first = laws.first_fits system;
      after = laws.after_fits system;
    }

-- the laws of a summary's join
semilattice : (g : Over) → IsSemilattice g.U.Summary.joins
semilattice g = (g.met.U.Summary g.world.𝓛 g.world.𝓜 g.world.𝓡 ((λ s x. x), (λ x. x), (λ x. x), λ x. x)).semilattice

-- the steps that a search found lead to its states, and what is left out of a layer is known
module _ (g : Over) (system : _) (n : ℕ) (states : List _) (steps : List (Option (Step _))) (from : ℕ) (summary : _)
    (is : as_found states steps from summary ≡ found_after (g.Y.System.graph system) g.U.Summary.joins (g.U.Summary.observation system) g.Y.State.PartialEq.eq n) where
  kept : AreKept (g.Y.System.graph system) states steps
  kept = are-kept (g.Y.System.graph system) g.Y.Label.Ord.cmp g.Y.State.PartialEq.eq (g.Y.System.fits system) (lawful g system)
      g.U.Summary.joins (g.U.Summary.observation system) (semilattice g) n states steps from summary is

  thin : (given : List (Option (Step _))) (candidates : List (Candidate (Option _) _)) → given ≡ steps
      → AreThinOf (g.Y.System.graph system) states given g.Y.Label.Ord.cmp (layer_candidates (g.Y.System.graph system) from (drop from states)) candidates
      → AreThinned g.Y.State.PartialEq.eq states (layer_candidates (g.Y.System.graph system) from (drop from states)) candidates
  thin given candidates same h = are-thinned (g.Y.System.graph system) g.Y.Label.Ord.cmp g.Y.State.PartialEq.eq (g.Y.System.fits system) (lawful g system)
      g.U.Summary.joins (g.U.Summary.observation system) (semilattice g) n states steps from summary is candidates
      (subst (λ (xs : List (Option (Step _))). AreThinOf (g.Y.System.graph system) states xs g.Y.Label.Ord.cmp (layer_candidates (g.Y.System.graph system) from (drop from states)) candidates) same h)

-- there are none where none are left
none-all : {A B : Type 0} (xs : List A) (ys : List B) → length ys ≡ length xs → ys ≡ [] → xs ≡ []
none-all xs ys e none = nil_from_length xs (sym e ∙ ap length none)

pub loop-layer-init : goal.loop-layer-init
unfolding found_after
loop-layer-init g c =
    let fits = g.Y.System.fits c.args.system.now in
    let first = (g.Y.System.graph c.args.system.now).first in
    let e = c.in_ok-explored.ensures in
    let count : length c.in_ok-explored.explored.visited.states.keys ≡ 1 = ap length e.states in
    record {
      found = λ i. as_found (e.states i) (e.lasts i) (e.from i) (e.summary i);
      fits = subst (All fits) (sym e.states) (All-cons fits first [] ((g.met.Y.System g.world.𝓛 g.world.𝓜 g.world.𝓡 ((λ s x. x), (λ x. x), (λ x. x), λ x. x)).first_fits c.args.system.now) (All-nil fits));
      within = omega arith;
      from = let from = e.from in omega arith;
      steps = e.steps;
      ending = e.ending;
      led_on = λ k less. absurd (omega arith);
      unmarked = λ number is.
          let none : take c.in_ok-explored.explored.from c.in_ok-explored.explored.visited.states.keys ≡ [] = ap (λ (n : ℕ). take n c.in_ok-explored.explored.visited.states.keys) e.from in
          subst (All (λ (s : _). (g.Y.System.graph c.args.system.now).mark s ≢ Some number)) (sym none) (All-nil (λ (s : _). (g.Y.System.graph c.args.system.now).mark s ≢ Some number));
    }

-- ---- a mark is reached

pub returns-then-is_marked-clause-end : goal.returns-then-is_marked-clause-end
returns-then-is_marked-clause-end g c = ended-here (g.Y.System.graph c.args.system.now) g.U.Summary.joins (g.U.Summary.observation c.args.system.now) g.Y.State.PartialEq.eq
    (g.Y.System.fits c.args.system.now) c.args.plan.now c.args.stops.now c.loop-layer.explored c.ended.result c.loop-layer.layer ending.Mark c.ended.ensures
    c.loop-layer.invariant.found c.loop-layer.invariant.fits c.loop-layer.invariant.within c.loop-layer.invariant.from c.loop-layer.invariant.steps
    (let test = c.loop-layer-test.true in omega arith) c.loop-layer.invariant.led_on c.loop-layer.invariant.unmarked (at_mark (c.is_marked.ensures.some c.if-is_marked.true))

-- ---- the candidates

pub expand_layer-requires-clause-kept : goal.expand_layer-requires-clause-kept
expand_layer-requires-clause-kept g c κs within =
    let so_far = c.loop-layer.explored in
    kept g c.args.system.now c.loop-layer.layer so_far.visited.states.keys so_far.visited.steps so_far.from so_far.summary c.loop-layer.invariant.found

pub returns-then-are_none-clause-end : goal.returns-then-are_none-clause-end
returns-then-are_none-clause-end g c =
    let graph = g.Y.System.graph c.args.system.now in
    let eq = g.Y.State.PartialEq.eq in
    let is = c.loop-layer.invariant in
    let so_far = c.loop-layer.explored in
    let keys = so_far.visited.states.keys in
    let all = layer_candidates graph so_far.from (drop so_far.from keys) in
    let thinned = thin g c.args.system.now c.loop-layer.layer keys so_far.visited.steps so_far.from so_far.summary c.loop-layer.invariant.found
    so_far.visited.steps c.in_ok-candidates.candidates.items refl c.in_ok-candidates.ensures in
    let none = none-all all c.in_ok-candidates.candidates.items (same-length eq keys all c.in_ok-candidates.candidates.items thinned) (c.are_none.ensures.0 c.if-are_none.true) in
    subst (IsEnd graph g.U.Summary.joins (g.U.Summary.observation c.args.system.now) eq
    (g.Y.System.fits c.args.system.now) c.args.plan.now c.args.stops.now) (sym c.finished.ensures)
    (finishes graph g.U.Summary.joins (g.U.Summary.observation c.args.system.now) eq
    (g.Y.System.fits c.args.system.now) c.args.plan.now c.args.stops.now so_far c.loop-layer.layer all c.loop-layer-test.true
    is.found is.fits is.within is.from is.steps is.ending is.led_on is.unmarked (c.is_marked.ensures.none c.if-is_marked.false) refl none)

-- ---- no room

pub find_first-requires-clause-steps : goal.find_first-requires-clause-steps
find_first-requires-clause-steps g c κs within =
    let graph = g.Y.System.graph c.args.system.now in
    let eq = g.Y.State.PartialEq.eq in
    let so_far = c.loop-layer.explored in
    let keys = so_far.visited.states.keys in
    let all = layer_candidates graph so_far.from (drop so_far.from keys) in
    let thinned = thin g c.args.system.now c.loop-layer.layer keys so_far.visited.steps so_far.from so_far.summary c.loop-layer.invariant.found
    so_far.visited.steps c.in_ok-candidates.candidates.items refl c.in_ok-candidates.ensures in
    subst (All (IsStep graph keys)) (sym c.as_slice.ensures.value)
    (steps-thinned eq keys all c.in_ok-candidates.candidates.items thinned graph keys (are-steps graph keys so_far.from all c.loop-layer.invariant.from refl))

pub returns-then-stops-clause-end : goal.returns-then-stops-clause-end
returns-then-stops-clause-end g c =
    let graph = g.Y.System.graph c.args.system.now in
    let eq = g.Y.State.PartialEq.eq in
    let so_far = c.loop-layer.explored in
    let keys = so_far.visited.states.keys in
    let all = layer_candidates graph so_far.from (drop so_far.from keys) in
    let thinned = thin g c.args.system.now c.loop-layer.layer keys so_far.visited.steps so_far.from so_far.summary c.loop-layer.invariant.found
    so_far.visited.steps c.in_ok-candidates.candidates.items refl c.in_ok-candidates.ensures in
    let first = c.in_ok-firsts.ensures.first all (subst (AreThinned eq keys all) (sym c.as_slice.ensures.value) thinned) in
    ended-here graph g.U.Summary.joins (g.U.Summary.observation c.args.system.now) eq
    (g.Y.System.fits c.args.system.now) c.args.plan.now c.args.stops.now so_far c.ended-then-stops.result c.loop-layer.layer ending.Limit c.ended-then-stops.ensures
    c.loop-layer.invariant.found c.loop-layer.invariant.fits c.loop-layer.invariant.within c.loop-layer.invariant.from c.loop-layer.invariant.steps
    (let test = c.loop-layer-test.true in omega arith) c.loop-layer.invariant.led_on c.loop-layer.invariant.unmarked
    (at_limit c.if-stops.true c.loop-layer-test.true
    (beyond graph g.U.Summary.joins (g.U.Summary.observation c.args.system.now) eq (equivalence g)
    c.loop-layer.layer (suc c.loop-layer.layer) c.args.plan.now.limit so_far.from keys so_far.visited.steps so_far.summary
    all c.in_ok-firsts.firsts.positions.items (omega arith) c.loop-layer.invariant.found refl first
    (let more = c.are_too_many.ensures.0 c.if-are_too_many.true in let states = c.len.ensures.len in let new = c.len-in-loop-layer.ensures in omega arith)))

pub returns-else-stops-clause-too_many : goal.returns-else-stops-clause-too_many
returns-else-stops-clause-too_many g c is =
    let graph = g.Y.System.graph c.args.system.now in
    let joins = g.U.Summary.joins in
    let observation = g.U.Summary.observation c.args.system.now in
    let eq = g.Y.State.PartialEq.eq in
    let layer = c.loop-layer.layer in
    let so_far = c.loop-layer.explored in
    let keys = so_far.visited.states.keys in
    let all = layer_candidates graph so_far.from (drop so_far.from keys) in
    let thinned = thin g c.args.system.now c.loop-layer.layer keys so_far.visited.steps so_far.from so_far.summary c.loop-layer.invariant.found
    so_far.visited.steps c.in_ok-candidates.candidates.items refl c.in_ok-candidates.ensures in
    let first = c.in_ok-firsts.ensures.first all (subst (AreThinned eq keys all) (sym c.as_slice.ensures.value) thinned) in
    let some = λ (none : all ≡ []). absurd (true≢false (sym (c.are_none.ensures.1
    (none-all c.in_ok-candidates.candidates.items all (sym (same-length eq keys all c.in_ok-candidates.candidates.items thinned)) none)) ∙ c.if-are_none.false)) in
    let led = leads-on graph joins observation eq layer so_far.from keys so_far.visited.steps so_far.summary all c.loop-layer.invariant.found refl some c.loop-layer.invariant.led_on in
    record {
      layer = layer;
      below = c.loop-layer-test.true;
      many = beyond graph joins observation eq (equivalence g)
          layer (suc layer) c.args.plan.now.limit so_far.from keys so_far.visited.steps so_far.summary
          all c.in_ok-firsts.firsts.positions.items (omega arith) c.loop-layer.invariant.found refl first
          (let more = c.are_too_many.ensures.0 c.if-are_too_many.true in let states = c.len.ensures.len in let new = c.len-in-loop-layer.ensures in omega arith);
      led_on = λ k low. led k (omega arith);
      unmarked = subst (λ (xs : _). IsUnmarked graph xs c.args.stops.now.at_mark) (ap (λ (f : Found _ _ _). f.states) c.loop-layer.invariant.found)
          (unmarked-both graph keys so_far.from c.args.stops.now.at_mark c.loop-layer.invariant.unmarked (c.is_marked.ensures.none c.if-is_marked.false));
    }

-- ---- a layer more

pub place_layer-requires-clause-candidates : goal.place_layer-requires-clause-candidates
place_layer-requires-clause-candidates g c κs within =
    let fits = g.Y.System.fits c.args.system.now in
    let graph = g.Y.System.graph c.args.system.now in
    let eq = g.Y.State.PartialEq.eq in
    let so_far = c.loop-layer.explored in
    let keys = so_far.visited.states.keys in
    let all = layer_candidates graph so_far.from (drop so_far.from keys) in
    let thinned = thin g c.args.system.now c.loop-layer.layer keys so_far.visited.steps so_far.from so_far.summary c.loop-layer.invariant.found
    so_far.visited.steps c.in_ok-candidates.candidates.items refl c.in_ok-candidates.ensures in
    let given = subst (AreThinned eq keys all) (sym c.as_slice.ensures.value) thinned in (
      all,
      record {
        fits = layer-fits graph fits ((g.met.Y.System g.world.𝓛 g.world.𝓜 g.world.𝓡 ((λ s x. x), (λ x. x), (λ x. x), λ x. x)).after_fits c.args.system.now) so_far.from (drop so_far.from keys)
            (All-drop fits so_far.from keys c.loop-layer.invariant.fits);
        thin = thinned;
        first = c.in_ok-firsts.ensures.first all given;
        shows = c.in_ok-firsts.ensures.summary all given;
      },
    )

pub place_layer-requires-clause-room : goal.place_layer-requires-clause-room
place_layer-requires-clause-room g c κs within =
    let few : ¬ (c.args.plan.now.limit < c.len.result + c.len-in-loop-layer.result) = λ more. absurd (true≢false (sym (c.are_too_many.ensures.1 more) ∙ c.if-are_too_many.false)) in
    let states = c.len.ensures.len in
    let new = c.len-in-loop-layer.ensures in
    omega arith

pub loop-layer-preserved : goal.loop-layer-preserved
loop-layer-preserved g c =
    let fits = g.Y.System.fits c.args.system.now in
    let graph = g.Y.System.graph c.args.system.now in
    let joins = g.U.Summary.joins in
    let observation = g.U.Summary.observation c.args.system.now in
    let eq = g.Y.State.PartialEq.eq in
    let so_far = c.loop-layer.explored in
    let new = c.in_ok-explored-2.explored in
    let keys = so_far.visited.states.keys in
    let all = layer_candidates graph so_far.from (drop so_far.from keys) in
    let thinned = thin g c.args.system.now c.loop-layer.layer keys so_far.visited.steps so_far.from so_far.summary c.loop-layer.invariant.found
    so_far.visited.steps c.in_ok-candidates.candidates.items refl c.in_ok-candidates.ensures in
    let some = λ (none : all ≡ []). absurd (true≢false (sym (c.are_none.ensures.1
    (none-all c.in_ok-candidates.candidates.items all (sym (same-length eq keys all c.in_ok-candidates.candidates.items thinned)) none)) ∙ c.if-are_none.false)) in
    let shown = with_steps joins observation graph keys so_far.summary all in
    let shown_is = steps-shown graph keys joins observation so_far.from so_far.summary all refl in
    let base = as_found keys so_far.visited.steps 0 shown in
    let given = subst (AreThinned eq keys all) (sym c.as_slice.ensures.value) thinned in
    let all_fit = layer-fits graph fits ((g.met.Y.System g.world.𝓛 g.world.𝓜 g.world.𝓡 ((λ s x. x), (λ x. x), (λ x. x), λ x. x)).after_fits c.args.system.now) so_far.from (drop so_far.from keys)
    (All-drop fits so_far.from keys c.loop-layer.invariant.fits) in
    let are : AreAll graph joins observation eq fits keys c.in_ok-candidates.candidates.items c.in_ok-firsts.firsts.positions.items c.in_ok-firsts.firsts.shown all = record {
      fits = all_fit;
      thin = thinned;
      first = c.in_ok-firsts.ensures.first all given;
      shows = c.in_ok-firsts.ensures.summary all given;
    } in
    let placed = c.in_ok-explored-2.ensures.placed all are in
    let new_states = ap (λ (f : Found _ _ _). f.states) (placed 0) in
    record {
      found = layer-done graph joins observation eq c.loop-layer.layer so_far.from new.from
          keys new.visited.states.keys so_far.visited.steps new.visited.steps
          so_far.summary shown new.summary all
          c.loop-layer.invariant.found refl shown_is c.in_ok-explored-2.ensures.from placed;
      fits = subst (All fits) (sym new_states)
          (place-all-fits joins observation eq fits base all c.loop-layer.invariant.fits all_fit);
      within = c.in_ok-explored-2.ensures.within;
      from =
          let grown = placed-grows joins observation eq keys new.visited.states.keys so_far.visited.steps
          new.visited.steps 0 shown new.summary all (placed 0) in
          subst (λ (k : ℕ). k ≤ length new.visited.states.keys) (sym c.in_ok-explored-2.ensures.from) grown;
      steps = let one = c.in_ok-explored-2.ensures.steps in let before = c.loop-layer.invariant.steps in omega arith;
      ending = c.in_ok-explored-2.ensures.ending ∙ c.loop-layer.invariant.ending;
      led_on = leads-on graph joins observation eq c.loop-layer.layer so_far.from keys so_far.visited.steps so_far.summary all
          c.loop-layer.invariant.found refl some c.loop-layer.invariant.led_on;
      unmarked = still-unmarked graph joins observation eq c.args.stops.now.at_mark so_far.from new.from keys new.visited.states.keys shown new.summary
          so_far.visited.steps new.visited.steps all
          c.loop-layer.invariant.unmarked (c.is_marked.ensures.none c.if-is_marked.false) c.in_ok-explored-2.ensures.from
          (placed 0);
    }

-- ---- all steps are done

pub returns-clause-end : goal.returns-clause-end
returns-clause-end g c =
    let is = c.loop-layer.invariant in
    let all : c.loop-layer.layer ≡ c.args.plan.now.steps = (let far = c.loop-layer-test.false in omega arith) in
    ended-here (g.Y.System.graph c.args.system.now) g.U.Summary.joins (g.U.Summary.observation c.args.system.now) g.Y.State.PartialEq.eq
    (g.Y.System.fits c.args.system.now) c.args.plan.now c.args.stops.now c.loop-layer.explored c.loop-layer.explored c.loop-layer.layer ending.Steps (λ i. record c.loop-layer.explored { ending = is.ending i })
    is.found is.fits is.within is.from is.steps (omega arith) is.led_on is.unmarked (all_done all)

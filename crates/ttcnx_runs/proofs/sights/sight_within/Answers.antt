use Rattle.std.proofs.Common.{ℕ, List, ap, subst, sym}
use Rattle.std.specs.Prelude.{Err}
use denote.Param.Send.{sendable}
use Rattle.std.proofs.Crossing.{crosses}
use Rattle.explore.specs.Sightings.{shown_at_end, shown_by_step}
use Rattle.explore.specs.declared.sightings.Sighting.{Sighting}
use Rattle.semantics.specs.Canonical.{canonical_graph}
use Rattle.semantics.specs.Labels.{label_cmp}
use Rattle.semantics.specs.Runs.{graph_of}
use Rattle.semantics.specs.Steps.{Label}
use Rattle.step_labels.specs.declared.standing.Standing.{Standing}
use Rattle.ttcnx_runs.proofs.Assembly.{answer-explored, extent-found, refused-explored}
use Rattle.ttcnx_runs.proofs.SightsAlike.{blocks-alike, places-alike, sighted-alike}
use Rattle.ttcnx_runs.proofs.crossing.Systems.{runs-row-sync}
use Rattle.ttcnx_runs.proofs.sights.sight_within.Goals as goal
use Rattle.ttcnx_runs.specs.Extents.{IsExtent}
use Rattle.ttcnx_runs.specs.Sights.{AreBlocks, ArePlaces, block_in, step_place}
use Rattle.ttcnx_runs.specs.declared.exploration.Extent.{Extent}
use Rattle.ttcnx_runs.specs.declared.step_place.StepPlace.{StepPlace}
use Rattle.ttcnx_runs.specs.internal.Explored.{AreSights}

pub search_watched-requires-sync-Y : goal.search_watched-requires-sync-Y
search_watched-requires-sync-Y g c κs within = search (runs-row-sync, crosses, sendable) depth 60 fits 20000

pub returns-in-Ok-sights_of : goal.returns-in-Ok-sights_of
returns-in-Ok-sights_of g c =
    let test = g.K.Scheme.machine.test in
    let sights = c.in-Ok-sights_of.sights in
    let sighted = c.in-Ok.sighted in
    let reached = sighted.reached in
    let n = reached.steps in
    let live = canonical_graph test in
    let is = c.in-Ok.ensures in
    let same = c.in-Ok-sights_of.ensures in
    answer-explored test c.args.plan.now c.args.stops.now (AreSights test c.args.plan.now c.args.stops.now) sights is.planned
    (record {
      extent = subst (λ (e : Extent). IsExtent test c.args.plan.now c.args.stops.now e)
          (λ i. record { steps = sym same.steps i; found = sights.extent.found; ending = sym same.ending i })
          (extent-found test sights.extent.found reached.answer same.made c.args.plan.now c.args.stops.now n reached.ending is.steps is.ended is.count
          is.branches is.blocked is.complete is.best is.every_bound);
      places = subst (λ (m : ℕ). ArePlaces test m sights.places.items) (sym same.steps) (subst (λ (l : List (Sighting StepPlace Label)). ArePlaces test n l) (sym same.places)
          (sighted-alike test label_cmp n (shown_by_step live (step_place test)) (shown_by_step (graph_of test) (step_place test)) (places-alike test) sighted.events.items is.events));
      blocks = subst (λ (m : ℕ). AreBlocks test m sights.blocks.items) (sym same.steps) (subst (λ (l : List (Sighting (List Standing) Label)). AreBlocks test n l) (sym same.blocks)
          (sighted-alike test label_cmp n (shown_at_end live (block_in test)) (shown_at_end (graph_of test) (block_in test)) (blocks-alike test) sighted.stands.items is.stands));
    })

pub returns : goal.returns
returns g c =
    let test = g.K.Scheme.machine.test in
    refused-explored test c.args.plan.now c.args.stops.now (AreSights test c.args.plan.now c.args.stops.now) c.in-Err.refused
    (λ is. c.in-Err.ensures.bad_plan.0 (ap Err is)) (λ no. let same = c.in-Err.ensures.bad_plan.1 no in cc) (λ is. c.in-Err.ensures.too_many (ap Err is)) (λ is. c.in-Err.ensures.limited (ap Err is))

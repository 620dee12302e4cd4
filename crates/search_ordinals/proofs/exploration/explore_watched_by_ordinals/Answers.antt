use Rattle.std.proofs.Common.{◌≡◌, ℕ, ◌≤◌, Less, subst, sym, ◌∙◌}
use Rattle.std.proofs.lemmas.Result.{err_from_is_err_and}
use Rattle.std.specs.Prelude.{AllPairs}
use Rattle.explore.specs.Sightings.{shown_at_end, shown_by_step}
use Rattle.search_ordinals.proofs.Answered.{ended-told, shown-told, too-many-told}
use Rattle.search_ordinals.proofs.Explored.{complete-told, counts-told, run-fits}
use Rattle.search_ordinals.proofs.Sighted.{all-sighted, all-telling, end-shown, step-shown}
use Rattle.search_ordinals.proofs.exploration.explore_watched_by_ordinals.Given.{Over}
use Rattle.search_ordinals.proofs.exploration.explore_watched_by_ordinals.Goals as goal
use Rattle.search_ordinals.specs.Ordinals.{ordinal_graph, shown_at}
use Rattle.summary.specs.Exploration.{Counts}
use Rattle.summary.specs.Run.{IsRun, Run, end_of}

-- labels that are enabled where a run ends ascend
ascends : (g : Over) (system : _) (run : Run _) → IsRun (g.Y.System.graph system) run → AllPairs (λ l m. g.Y.Label.Ord.cmp l m ≡ Less) ((g.Y.System.graph system).enabled (end_of (g.Y.System.graph system) run))
ascends g system run is =
    let laws = g.met.Y.System g.world.𝓛 g.world.𝓜 g.world.𝓡 ((λ s x. x), (λ x. x), (λ x. x), λ x. x) in
    laws.ascending system (end_of (g.Y.System.graph system) run) (run-fits (g.Y.System.graph system) (g.Y.System.fits system) (laws.first_fits system) (laws.after_fits system) run is)

pub returns-in_err-sighted-clause-too_many : goal.returns-in_err-sighted-clause-too_many
returns-in_err-sighted-clause-too_many g c many =
    let system = c.args.system.now in
    let p = err_from_is_err_and c.from_residual.result c.from_residual.ensures.1 in
    too-many-told (g.Y.Located.branch system) (g.Y.System.graph system) c.args.plan.now c.args.stops.now (c.in_err-sighted.ensures.too_many (cc (p.1, p.2, many)))

pub answer_with_labels-requires-clause-best : goal.answer_with_labels-requires-clause-best
answer_with_labels-requires-clause-best g c κs within = (c.in_ok-sighted.sighted.reached.steps, c.in_ok-sighted.ensures.best)

pub labels_of_sightings-requires-clause-telling : goal.labels_of_sightings-requires-clause-telling
labels_of_sightings-requires-clause-telling g c κs within =
    let system = c.args.system.now in
    let branch = g.Y.Located.branch system in
    let graph = g.Y.System.graph system in
    let event = g.Y.Watched.event system in
    all-telling branch graph c.in_ok-sighted.sighted.reached.steps (shown_by_step graph event) (shown_by_step (ordinal_graph branch graph) (λ s o. shown_at (event s) (graph.enabled s) o.nth)) (step-shown branch graph event)
    c.in_ok-sighted.sighted.events.items c.in_ok-sighted.ensures.events

pub labels_of_sightings-requires-2-clause-telling : goal.labels_of_sightings-requires-2-clause-telling
labels_of_sightings-requires-2-clause-telling g c κs within =
    let system = c.args.system.now in
    let branch = g.Y.Located.branch system in
    let graph = g.Y.System.graph system in
    let stand = g.Y.Watched.stand system in
    all-telling branch graph c.in_ok-sighted.sighted.reached.steps (shown_at_end graph stand) (shown_at_end (ordinal_graph branch graph) stand) (end-shown branch graph stand)
    c.in_ok-sighted.sighted.stands.items c.in_ok-sighted.ensures.stands

pub returns-clause-ended : goal.returns-clause-ended
returns-clause-ended g c =
    let system = c.args.system.now in
    let reached = c.in_ok-sighted.sighted.reached in
    ended-told (g.Y.Located.branch system) (g.Y.System.graph system) c.args.plan.now c.args.stops.now reached.steps reached.ending c.in_ok-sighted.ensures.ended

pub returns-clause-count : goal.returns-clause-count
returns-clause-count g c =
    let system = c.args.system.now in
    let reached = c.in_ok-sighted.sighted.reached in
    let found = c.in_ok-sighted.ensures.count in
    subst (λ (count : ℕ). Counts (g.Y.System.graph system) reached.steps count × (count ≤ c.args.plan.now.limit)) (sym c.in_ok-answer.ensures.count)
    (counts-told (g.Y.Located.branch system) (g.Y.System.graph system) reached.steps reached.answer.count found.0, found.1)

pub returns-clause-summary : goal.returns-clause-summary
returns-clause-summary g c =
    let system = c.args.system.now in
    c.in_ok-answer.ensures.summary ∙ c.in_ok-sighted.ensures.summary
    ∙ shown-told (g.Y.Located.branch system) (g.Y.Located.blocked system) (g.Y.System.graph system) c.in_ok-sighted.sighted.reached.steps

pub returns-clause-complete : goal.returns-clause-complete
returns-clause-complete g c =
    let system = c.args.system.now in
    let kept = c.in_ok-answer.ensures.complete in
    let found = c.in_ok-sighted.ensures.complete in
    let same = complete-told (g.Y.Located.branch system) (g.Y.System.graph system) c.in_ok-sighted.sighted.reached.steps in
    (λ is. same.0 (found.0 (sym kept ∙ is)), λ all. kept ∙ found.1 (same.1 all))

pub returns-clause-best : goal.returns-clause-best
returns-clause-best g c = c.in_ok-answer.ensures.best c.in_ok-sighted.sighted.reached.steps c.in_ok-sighted.ensures.best

pub returns-clause-every_bound : goal.returns-clause-every_bound
returns-clause-every_bound g c is bound above =
    let system = c.args.system.now in
    let found = c.in_ok-sighted.ensures.every_bound (sym c.in_ok-answer.ensures.complete ∙ is) bound above in (
      c.in_ok-answer.ensures.summary ∙ found.0 ∙ shown-told (g.Y.Located.branch system) (g.Y.Located.blocked system) (g.Y.System.graph system) bound,
      subst (Counts (g.Y.System.graph system) bound) (sym c.in_ok-answer.ensures.count)
          (counts-told (g.Y.Located.branch system) (g.Y.System.graph system) bound c.in_ok-sighted.sighted.reached.answer.count found.1),
    )

pub returns-clause-events : goal.returns-clause-events
returns-clause-events g c =
    let system = c.args.system.now in
    let branch = g.Y.Located.branch system in
    let graph = g.Y.System.graph system in
    let event = g.Y.Watched.event system in
    all-sighted branch graph c.in_ok-sighted.sighted.reached.steps (shown_by_step graph event) (shown_by_step (ordinal_graph branch graph) (λ s o. shown_at (event s) (graph.enabled s) o.nth)) (step-shown branch graph event)
    g.Y.Label.Ord.cmp (g.met.Y.Label.Ord g.world.𝓛 g.world.𝓜 g.world.𝓡 ((λ s x. x), (λ x. x), (λ x. x), λ x. x)).total (ascends g system)
    c.in_ok-sighted.sighted.events.items c.in_ok-events.events.items c.in_ok-sighted.ensures.events c.in_ok-events.ensures

pub returns-clause-stands : goal.returns-clause-stands
returns-clause-stands g c =
    let system = c.args.system.now in
    let branch = g.Y.Located.branch system in
    let graph = g.Y.System.graph system in
    let stand = g.Y.Watched.stand system in
    all-sighted branch graph c.in_ok-sighted.sighted.reached.steps (shown_at_end graph stand) (shown_at_end (ordinal_graph branch graph) stand) (end-shown branch graph stand)
    g.Y.Label.Ord.cmp (g.met.Y.Label.Ord g.world.𝓛 g.world.𝓜 g.world.𝓡 ((λ s x. x), (λ x. x), (λ x. x), λ x. x)).total (ascends g system)
    c.in_ok-sighted.sighted.stands.items c.in_ok-stands.stands.items c.in_ok-sighted.ensures.stands c.in_ok-stands.ensures

use Rattle.std.proofs.Common.{ℕ, ◌≤◌, subst, sym, ◌∙◌}
use Rattle.std.proofs.lemmas.Result.{err_from_is_err_and}
use Rattle.search_ordinals.proofs.Answered.{ended-told, shown-told, too-many-told}
use Rattle.search_ordinals.proofs.Explored.{complete-told, counts-told}
use Rattle.search_ordinals.proofs.exploration.explore_by_ordinals.Goals as goal
use Rattle.summary.specs.Exploration.{Counts}

pub returns-in_err-reached-clause-too_many : goal.returns-in_err-reached-clause-too_many
returns-in_err-reached-clause-too_many g c many =
    let system = c.args.system.now in
    let p = err_from_is_err_and c.from_residual.result c.from_residual.ensures.1 in
    too-many-told (g.Y.Located.branch system) (g.Y.System.graph system) c.args.plan.now c.args.stops.now (c.in_err-reached.ensures.too_many (cc (p.1, p.2, many)))

pub answer_with_labels-requires-clause-best : goal.answer_with_labels-requires-clause-best
answer_with_labels-requires-clause-best g c κs within = (c.in_ok-reached.reached.steps, c.in_ok-reached.ensures.best)

pub returns-clause-ended : goal.returns-clause-ended
returns-clause-ended g c =
    let system = c.args.system.now in
    ended-told (g.Y.Located.branch system) (g.Y.System.graph system) c.args.plan.now c.args.stops.now c.in_ok-reached.reached.steps c.in_ok-reached.reached.ending c.in_ok-reached.ensures.ended

pub returns-clause-count : goal.returns-clause-count
returns-clause-count g c =
    let system = c.args.system.now in
    let steps = c.in_ok-reached.reached.steps in
    let found = c.in_ok-reached.ensures.count in
    subst (λ (count : ℕ). Counts (g.Y.System.graph system) steps count × (count ≤ c.args.plan.now.limit)) (sym c.in_ok-answer.ensures.count)
    (counts-told (g.Y.Located.branch system) (g.Y.System.graph system) steps c.in_ok-reached.reached.answer.count found.0, found.1)

pub returns-clause-summary : goal.returns-clause-summary
returns-clause-summary g c =
    let system = c.args.system.now in
    c.in_ok-answer.ensures.summary ∙ c.in_ok-reached.ensures.summary
    ∙ shown-told (g.Y.Located.branch system) (g.Y.Located.blocked system) (g.Y.System.graph system) c.in_ok-reached.reached.steps

pub returns-clause-complete : goal.returns-clause-complete
returns-clause-complete g c =
    let system = c.args.system.now in
    let kept = c.in_ok-answer.ensures.complete in
    let found = c.in_ok-reached.ensures.complete in
    let same = complete-told (g.Y.Located.branch system) (g.Y.System.graph system) c.in_ok-reached.reached.steps in
    (λ is. same.0 (found.0 (sym kept ∙ is)), λ all. kept ∙ found.1 (same.1 all))

pub returns-clause-best : goal.returns-clause-best
returns-clause-best g c = c.in_ok-answer.ensures.best c.in_ok-reached.reached.steps c.in_ok-reached.ensures.best

pub returns-clause-every_bound : goal.returns-clause-every_bound
returns-clause-every_bound g c is bound above =
    let system = c.args.system.now in
    let found = c.in_ok-reached.ensures.every_bound (sym c.in_ok-answer.ensures.complete ∙ is) bound above in (
      c.in_ok-answer.ensures.summary ∙ found.0 ∙ shown-told (g.Y.Located.branch system) (g.Y.Located.blocked system) (g.Y.System.graph system) bound,
      subst (Counts (g.Y.System.graph system) bound) (sym c.in_ok-answer.ensures.count)
          (counts-told (g.Y.Located.branch system) (g.Y.System.graph system) bound c.in_ok-reached.reached.answer.count found.1),
    )

use Rattle.std.proofs.Common.{◌≡◌, ℕ, ◌≤◌, refl, subst, ◌∙◌, ap}
use Rattle.std.specs.Prelude.{◌↔◌, IsTrue}
use Rattle.std.proofs.lemmas.Result.{err_from_is_err_and}
use Rattle.summary.specs.Exploration.{Counts, IsComplete}
use Rattle.summary.specs.Sums.{sum_of}
use Rattle.explore.proofs.Endings.{without-stops}
use Rattle.explore.specs.Best.{AreBest}
use Rattle.explore.specs.Endings.{all_done}
use Rattle.explore.specs.declared.ending.Ending.TheVariants as ending
use Rattle.explore.proofs.answer.explore.Given.{Over}
use Rattle.explore.proofs.answer.explore.Goals as goal

-- all of the plan's steps are done
all-steps : (g : Over) (c : goal.In_ok-reached g) → c.in_ok-reached.reached.steps ≡ c.args.plan.now.steps
all-steps g c = without-stops (g.Y.System.graph c.args.system.now) c.args.plan.now _ c.in_ok-reached.reached.steps c.in_ok-reached.reached.ending refl refl refl c.in_ok-reached.ensures.ended

pub returns-in_err-reached-clause-too_many : goal.returns-in_err-reached-clause-too_many
returns-in_err-reached-clause-too_many g c many =
    let p = err_from_is_err_and c.from_residual.result c.from_residual.ensures.1 in
    c.in_err-reached.ensures.too_many (cc (p.1, p.2, many)) c.args.plan.now.steps ending.Steps (all_done refl)

pub returns-clause-count : goal.returns-clause-count
returns-clause-count g c =
    subst (λ (n : ℕ). Counts (g.Y.System.graph c.args.system.now) n c.in_ok-reached.reached.answer.count × (c.in_ok-reached.reached.answer.count ≤ c.args.plan.now.limit))
    (all-steps g c) c.in_ok-reached.ensures.count

pub returns-clause-summary : goal.returns-clause-summary
returns-clause-summary g c = c.in_ok-reached.ensures.summary ∙ ap (sum_of (g.Y.System.graph c.args.system.now) g.U.Summary.joins (g.U.Summary.observation c.args.system.now)) (all-steps g c)

pub returns-clause-complete : goal.returns-clause-complete
returns-clause-complete g c =
    subst (λ (n : ℕ). IsTrue c.in_ok-reached.reached.answer.complete ↔ IsComplete (g.Y.System.graph c.args.system.now) n) (all-steps g c) c.in_ok-reached.ensures.complete

pub returns-clause-best : goal.returns-clause-best
returns-clause-best g c =
    subst (λ (n : ℕ). AreBest (g.Y.System.graph c.args.system.now) g.Y.Label.Ord.cmp n c.in_ok-reached.reached.answer.best.items) (all-steps g c) c.in_ok-reached.ensures.best

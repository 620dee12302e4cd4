use Rattle.std.proofs.Common.{◌≡◌, ℕ, ◌≤◌, refl, subst, sym}
use Rattle.std.specs.Prelude.{◌↔◌, IsTrue}
use Rattle.std.proofs.lemmas.Result.{err_from_is_err_and}
use Rattle.explore.specs.declared.ending.Ending.TheVariants as ending
use Rattle.laws_bounds.specs.BoundedParts.{IsCompleteBounded}
use Rattle.ttcnx_bounds.proofs.Assembly.{all-steps}
use Rattle.ttcnx_bounds.specs.BoundedEndings.{all_done}
use Rattle.ttcnx_bounds.specs.BoundedFound.{AreFoundBounded}
use Rattle.ttcnx_bounds.proofs.exploration.explore_bounded.Given.{Over}
use Rattle.ttcnx_bounds.proofs.exploration.explore_bounded.Goals as goal

-- all of the plan's steps are done
done : (g : Over) (c : goal.In_ok-extent g) → c.in_ok-extent.extent.steps ≡ c.args.plan.now.steps
done g c = all-steps c.args.machine.now.test c.args.bound c.args.plan.now _ c.in_ok-extent.extent.steps c.in_ok-extent.extent.ending refl refl refl c.in_ok-extent.ensures.ended

pub returns-in_err-extent-clause-too_many : goal.returns-in_err-extent-clause-too_many
returns-in_err-extent-clause-too_many g c many =
    let p = err_from_is_err_and c.from_residual.result c.from_residual.ensures.1 in
    c.in_err-extent.ensures.too_many (cc (p.1, p.2, many)) c.args.plan.now.steps ending.Steps (all_done refl)

pub returns-clause-found : goal.returns-clause-found
returns-clause-found g c = subst (λ (n : ℕ). AreFoundBounded c.args.machine.now.test c.args.bound n c.in_ok-extent.extent.found) (done g c) c.in_ok-extent.ensures.found

pub returns-clause-complete : goal.returns-clause-complete
returns-clause-complete g c =
    subst (λ (n : ℕ). IsTrue c.in_ok-extent.extent.found.complete ↔ IsCompleteBounded c.args.machine.now.test c.args.bound n) (done g c) c.in_ok-extent.ensures.complete

pub returns-clause-every_bound : goal.returns-clause-every_bound
returns-clause-every_bound g c all steps above =
    c.in_ok-extent.ensures.every_bound all steps (subst (λ (n : ℕ). n ≤ steps) (sym (done g c)) above)

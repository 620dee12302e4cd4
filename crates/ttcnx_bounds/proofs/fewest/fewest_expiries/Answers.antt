use Rattle.std.proofs.Common.{ℕ, ◌<◌, List, Option, refl, subst, sym}
use Rattle.semantics.specs.Steps.{Label}
use Rattle.ttcnx_bounds.proofs.FewExpiries.{none-at-all, none-so-far, within}
use Rattle.ttcnx_bounds.proofs.fewest.fewest_expiries.Goals as goal
use Rattle.ttcnx_bounds.specs.BoundedFound.{IsBestRunBounded}
use Rattle.ttcnx_bounds.specs.Fewest.{at_most}

pub returns-then-from-plan-clause-fewest : goal.returns-then-from-plan-clause-fewest
returns-then-from-plan-clause-fewest g c =
    let n = c.args.plan.now.steps in
    none-at-all c.args.machine.now.test c.args.patient n c.args.verdict c.loop-expiries.expiries (subst (λ (k : ℕ). n < k) c.from.ensures c.if-from-plan.true) c.loop-expiries.invariant

pub loop-expiries-preserved : goal.loop-expiries-preserved
loop-expiries-preserved g c =
    let test = c.args.machine.now.test in
    let bound = at_most c.args.patient c.loop-expiries.expiries in
    none-so-far test c.args.patient c.args.plan.now.steps c.args.verdict c.loop-expiries.expiries c.loop-expiries.invariant
    (subst (λ (run : Option (List Label)). IsBestRunBounded test bound c.args.plan.now.steps c.args.verdict run) (sym c.in_default.ensures) (c.in_ok-found.ensures.found.best c.args.verdict))

pub returns-clause-fewest : goal.returns-clause-fewest
returns-clause-fewest g c =
    let fine = c.if-not-is_within_limits.ensures.0 refl in
    none-at-all c.args.machine.now.test c.args.patient c.args.plan.now.steps c.args.verdict c.loop-expiries.expiries (within c.args.plan.now.steps c.loop-expiries.expiries fine.steps c.loop-expiries-test.false) c.loop-expiries.invariant

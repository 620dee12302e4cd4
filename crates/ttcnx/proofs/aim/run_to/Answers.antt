use Rattle.std.proofs.Common.{◌≡◌, inr, refl, sym, ap, subst}
use Rattle.std.specs.Prelude.{◌⊎◌, Err}
use Rattle.semantics.specs.Snapshots.{Test}
use Rattle.ttcnx.proofs.LeastAims.{found-is-least}
use Rattle.ttcnx.proofs.Stages.{as-error}
use Rattle.ttcnx.proofs.Untils.{no-answer, no-test, refusal-answers}
use Rattle.ttcnx.proofs.aim.run_to.Goals as goal
use Rattle.ttcnx.specs.Aims.{IsAnswerTo, reached, refused}
use Rattle.ttcnx.specs.Fault.{explore_fault}
use Rattle.ttcnx.specs.Named.{IsTestOf, source}
use Rattle.ttcnx.specs.Until.{beyond}
use Rattle.ttcnx.specs.declared.fault.Fault.TheVariants.{Memory}

pub returns-then-not-is_within_limits-clause-answer : goal.returns-then-not-is_within_limits-clause-answer
returns-then-not-is_within_limits-clause-answer g c = inr (refused (beyond (λ fine. let off = c.if-not-is_within_limits.ensures.1 fine in cc)))

pub returns-in_err-program-clause-answer : goal.returns-in_err-program-clause-answer
returns-in_err-program-clause-answer g c =
    let why = c.in_err-program.field-0.0 in
    let fine = c.if-not-is_within_limits.ensures.0 refl in
    let given = source c.args.text.now c.args.script.now in
    as-error c.from_residual.result why (λ r. (r ≡ Err Memory) ⊎ IsAnswerTo given c.args.name.now c.args.plan.now c.args.stops.now c.args.aim r)
    c.from_residual.ensures.0 c.from_residual.ensures.1
    (refusal-answers (IsAnswerTo given c.args.name.now c.args.plan.now c.args.stops.now c.args.aim) (λ w no. refused no) why
    (no-test given c.args.name.now c.args.plan.now c.args.stops.now fine why c.in_err-program.ensures.lacking))

pub returns-in_err-sights-clause-answer : goal.returns-in_err-sights-clause-answer
returns-in_err-sights-clause-answer g c =
    let error = c.in_err-sights.field-0.0 in
    let fine = c.if-not-is_within_limits.ensures.0 refl in
    let given = source c.args.text.now c.args.script.now in
    let machine = c.in_ok-machine.machine in
    let is = subst (λ (t : Test). IsTestOf given c.args.name.now t) (sym c.in_ok-machine.ensures) c.in_ok-program.ensures.named in
    as-error c.from_residual-in_err-sights.result (explore_fault error) (λ r. (r ≡ Err Memory) ⊎ IsAnswerTo given c.args.name.now c.args.plan.now c.args.stops.now c.args.aim r)
    c.from_residual-in_err-sights.ensures.0 c.from_residual-in_err-sights.ensures.1
    (refusal-answers (IsAnswerTo given c.args.name.now c.args.plan.now c.args.stops.now c.args.aim) (λ w no. refused no) (explore_fault error)
    (no-answer given c.args.name.now c.args.plan.now c.args.stops.now fine machine.test error is (λ same. c.in_err-sights.ensures.bad_plan.0 (ap Err same)) (λ same. c.in_err-sights.ensures.too_many (ap Err same))
    (λ same. c.in_err-sights.ensures.limited (ap Err same))))

pub returns-clause-answer : goal.returns-clause-answer
returns-clause-answer g c =
    let fine = c.if-not-is_within_limits.ensures.0 refl in
    let machine = c.in_ok-machine.machine in
    let is = subst (λ (t : Test). IsTestOf (source c.args.text.now c.args.script.now) c.args.name.now t) (sym c.in_ok-machine.ensures) c.in_ok-program.ensures.named in
    let extent = c.in_ok-sights.ensures.extent in
    inr (reached fine is extent.steps extent.found.configurations extent.within extent.ended
    (found-is-least {test = machine.test} c.in_ok-sights.sights c.args.aim refl c.reach-run.ensures c.in_ok-sights.ensures.places c.in_ok-sights.ensures.blocks))

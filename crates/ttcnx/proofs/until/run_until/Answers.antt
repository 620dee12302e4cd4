use Rattle.std.proofs.Common.{◌≡◌, inl, inr, refl, sym, ap, subst}
use Rattle.std.specs.Prelude.{◌⊎◌, Err}
use Rattle.semantics.specs.Snapshots.{Test}
use Rattle.ttcnx.proofs.Stages.{as-error}
use Rattle.ttcnx.proofs.Told.{IsMadeOf}
use Rattle.ttcnx.proofs.Untils.{no-answer, no-test, refusal-answers, until-answers}
use Rattle.ttcnx.proofs.until.run_until.Goals as goal
use Rattle.ttcnx.specs.Fault.{explore_fault}
use Rattle.ttcnx.specs.Named.{IsTestOf, source}
use Rattle.ttcnx.specs.Until.{IsAnswerUntil, beyond, refused}
use Rattle.ttcnx.specs.declared.fault.Fault.TheVariants.{Memory}

pub returns-then-not-is_within_limits-clause-answer : goal.returns-then-not-is_within_limits-clause-answer
returns-then-not-is_within_limits-clause-answer g c = inr (refused (beyond (λ fine. let off = c.if-not-is_within_limits.ensures.1 fine in cc)))

pub returns-in_err-program-clause-answer : goal.returns-in_err-program-clause-answer
returns-in_err-program-clause-answer g c =
    let why = c.in_err-program.field-0.0 in
    let fine = c.if-not-is_within_limits.ensures.0 refl in
    as-error c.from_residual.result why (λ r. (r ≡ Err Memory) ⊎ IsAnswerUntil (source c.args.text.now c.args.script.now) c.args.name.now c.args.plan.now c.args.stops.now r)
    c.from_residual.ensures.0 c.from_residual.ensures.1 (refusal-answers (IsAnswerUntil (source c.args.text.now c.args.script.now) c.args.name.now c.args.plan.now c.args.stops.now) (λ w no. refused no) why
    (no-test (source c.args.text.now c.args.script.now) c.args.name.now c.args.plan.now c.args.stops.now fine why c.in_err-program.ensures.lacking))

pub returns-in_err-extent-clause-answer : goal.returns-in_err-extent-clause-answer
returns-in_err-extent-clause-answer g c =
    let error = c.in_err-extent.field-0.0 in
    let fine = c.if-not-is_within_limits.ensures.0 refl in
    let machine = c.in_ok-machine.machine in
    let is = subst (λ (t : Test). IsTestOf (source c.args.text.now c.args.script.now) c.args.name.now t) (sym c.in_ok-machine.ensures) c.in_ok-program.ensures.named in
    as-error c.from_residual-in_err-extent.result (explore_fault error) (λ r. (r ≡ Err Memory) ⊎ IsAnswerUntil (source c.args.text.now c.args.script.now) c.args.name.now c.args.plan.now c.args.stops.now r)
    c.from_residual-in_err-extent.ensures.0 c.from_residual-in_err-extent.ensures.1
    (refusal-answers (IsAnswerUntil (source c.args.text.now c.args.script.now) c.args.name.now c.args.plan.now c.args.stops.now) (λ w no. refused no) (explore_fault error)
    (no-answer (source c.args.text.now c.args.script.now) c.args.name.now c.args.plan.now c.args.stops.now fine machine.test error is (λ same. c.in_err-extent.ensures.bad_plan.0 (ap Err same)) (λ same. c.in_err-extent.ensures.too_many (ap Err same))
    (λ same. c.in_err-extent.ensures.limited (ap Err same))))

pub returns-in_err-report-clause-answer : goal.returns-in_err-report-clause-answer
returns-in_err-report-clause-answer g c =
    as-error c.from_residual-in_err-report.result Memory (λ r. (r ≡ Err Memory) ⊎ IsAnswerUntil (source c.args.text.now c.args.script.now) c.args.name.now c.args.plan.now c.args.stops.now r)
    c.from_residual-in_err-report.ensures.0 c.from_residual-in_err-report.ensures.1 (inl refl)

pub returns-clause-answer : goal.returns-clause-answer
returns-clause-answer g c =
    let fine = c.if-not-is_within_limits.ensures.0 refl in
    let machine = c.in_ok-machine.machine in
    let is = subst (λ (t : Test). IsTestOf (source c.args.text.now c.args.script.now) c.args.name.now t) (sym c.in_ok-machine.ensures) c.in_ok-program.ensures.named in
    let extent = c.in_ok-extent.extent in
    let report = c.in_ok-report.report in
    let made : IsMadeOf extent.found report = record {
      configurations = c.in_ok-report.ensures.configurations;
      complete = c.in_ok-report.ensures.complete;
      outcomes = c.in_ok-report.ensures.outcomes;
      branches = c.in_ok-report.ensures.branches;
      blocked = c.in_ok-report.ensures.blocked;
    } in
    inr (until-answers (source c.args.text.now c.args.script.now) c.args.name.now c.args.plan.now c.args.stops.now fine machine.test extent report is c.in_ok-extent.ensures.extent made
    c.in_ok-report.ensures.testcase c.in_ok-report.ensures.steps)

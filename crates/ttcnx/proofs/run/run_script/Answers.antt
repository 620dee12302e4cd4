use Rattle.std.proofs.Common.{◌≡◌, inl, inr, refl, sym, ap, subst}
use Rattle.std.specs.Prelude.{◌⊎◌, Err}
use Rattle.semantics.specs.Snapshots.{Test}
use Rattle.ttcnx.proofs.Listed.{lists-verdicts}
use Rattle.ttcnx.proofs.OneAnswer.{one-test}
use Rattle.ttcnx.proofs.Stages.{as-error, name-answers, search-answers}
use Rattle.ttcnx.proofs.Told.{IsMadeOf, complete-found, tells, tells-of-runs}
use Rattle.ttcnx.proofs.WellTyped.{runs_stay_well_typed}
use Rattle.ttcnx.proofs.run.run_script.Goals as goal
use Rattle.ttcnx.specs.Answer.{IsAnswer, beyond, named, told}
use Rattle.ttcnx.specs.Fault.{explore_fault}
use Rattle.ttcnx.specs.Named.{IsTestOf, source}
use Rattle.ttcnx.specs.Tells.{TellsOfRuns}
use Rattle.ttcnx.specs.declared.fault.Fault.TheVariants.{Memory}

pub returns-then-not-is_within_limits-clause-answer : goal.returns-then-not-is_within_limits-clause-answer
returns-then-not-is_within_limits-clause-answer g c = inr (beyond (λ fine. let off = c.if-not-is_within_limits.ensures.1 fine in cc))

pub returns-in_err-program-clause-answer : goal.returns-in_err-program-clause-answer
returns-in_err-program-clause-answer g c =
    let why = c.in_err-program.field-0.0 in
    let fine = c.if-not-is_within_limits.ensures.0 refl in
    as-error c.from_residual.result why (λ r. (r ≡ Err Memory) ⊎ IsAnswer (source c.args.text.now c.args.script.now) c.args.name.now c.args.plan.now r)
    c.from_residual.ensures.0 c.from_residual.ensures.1 (name-answers (source c.args.text.now c.args.script.now) c.args.name.now c.args.plan.now why fine c.in_err-program.ensures.lacking)

pub returns-in_err-found-clause-answer : goal.returns-in_err-found-clause-answer
returns-in_err-found-clause-answer g c =
    let error = c.in_err-found.field-0.0 in
    let fine = c.if-not-is_within_limits.ensures.0 refl in
    let machine = c.in_ok-machine.machine in
    let is = subst (λ (t : Test). IsTestOf (source c.args.text.now c.args.script.now) c.args.name.now t) (sym c.in_ok-machine.ensures) c.in_ok-program.ensures.named in
    as-error c.from_residual-in_err-found.result (explore_fault error) (λ r. (r ≡ Err Memory) ⊎ IsAnswer (source c.args.text.now c.args.script.now) c.args.name.now c.args.plan.now r)
    c.from_residual-in_err-found.ensures.0 c.from_residual-in_err-found.ensures.1
    (search-answers (source c.args.text.now c.args.script.now) c.args.name.now c.args.plan.now machine.test error fine is (λ same. c.in_err-found.ensures.bad_plan.0 (ap Err same)) (λ same. c.in_err-found.ensures.too_many (ap Err same)))

pub returns-in_err-report_of-clause-answer : goal.returns-in_err-report_of-clause-answer
returns-in_err-report_of-clause-answer g c =
    as-error c.from_residual-in_err-report_of.result Memory (λ r. (r ≡ Err Memory) ⊎ IsAnswer (source c.args.text.now c.args.script.now) c.args.name.now c.args.plan.now r)
    c.from_residual-in_err-report_of.ensures.0 c.from_residual-in_err-report_of.ensures.1 (inl refl)

pub returns-clause-answer : goal.returns-clause-answer
returns-clause-answer g c =
    let fine = c.if-not-is_within_limits.ensures.0 refl in
    let machine = c.in_ok-machine.machine in
    let is = subst (λ (t : Test). IsTestOf (source c.args.text.now c.args.script.now) c.args.name.now t) (sym c.in_ok-machine.ensures) c.in_ok-program.ensures.named in
    let found = c.in_ok-found.found in
    let report = c.in_ok-report_of.field-0 in
    let made : IsMadeOf found report = record {
      configurations = c.in_ok-report_of.ensures.configurations;
      complete = c.in_ok-report_of.ensures.complete;
      outcomes = c.in_ok-report_of.ensures.outcomes;
      branches = c.in_ok-report_of.ensures.branches;
      blocked = c.in_ok-report_of.ensures.blocked;
    } in
    inr (named fine is (told (tells machine.test c.args.name.now c.args.plan.now found report made c.in_ok-report_of.ensures.testcase c.in_ok-report_of.ensures.steps
    c.in_ok-found.ensures.found c.in_ok-found.ensures.within c.in_ok-found.ensures.complete)))

pub returns-clause-every_bound : goal.returns-clause-every_bound
returns-clause-every_bound g c =
    let machine = c.in_ok-machine.machine in
    let is = subst (λ (t : Test). IsTestOf (source c.args.text.now c.args.script.now) c.args.name.now t) (sym c.in_ok-machine.ensures) c.in_ok-program.ensures.named in
    let found = c.in_ok-found.found in
    let report = c.in_ok-report_of.field-0 in
    let made : IsMadeOf found report = record {
      configurations = c.in_ok-report_of.ensures.configurations;
      complete = c.in_ok-report_of.ensures.complete;
      outcomes = c.in_ok-report_of.ensures.outcomes;
      branches = c.in_ok-report_of.ensures.branches;
      blocked = c.in_ok-report_of.ensures.blocked;
    } in
    λ complete test is_test bound above.
    subst (λ (t : Test). TellsOfRuns t bound report) (one-test (source c.args.text.now c.args.script.now) c.args.name.now machine.test test is is_test)
    (tells-of-runs machine.test bound found report made (c.in_ok-found.ensures.every_bound (complete-found found report made complete) bound above))

pub returns-clause-every_verdict : goal.returns-clause-every_verdict
returns-clause-every_verdict g c =
    λ complete test is_test. lists-verdicts (source c.args.text.now c.args.script.now) c.args.name.now test c.args.plan.now.steps c.in_ok-report_of.field-0 is_test (returns-clause-every_bound g c complete test is_test)

pub returns-then-not-is_within_limits-clause-stays_well_typed : goal.returns-then-not-is_within_limits-clause-stays_well_typed
returns-then-not-is_within_limits-clause-stays_well_typed g c = runs_stay_well_typed (source c.args.text.now c.args.script.now) c.args.name.now

pub returns-in_err-program-clause-stays_well_typed : goal.returns-in_err-program-clause-stays_well_typed
returns-in_err-program-clause-stays_well_typed g c = runs_stay_well_typed (source c.args.text.now c.args.script.now) c.args.name.now

pub returns-in_err-machine-clause-stays_well_typed : goal.returns-in_err-machine-clause-stays_well_typed
returns-in_err-machine-clause-stays_well_typed g c = runs_stay_well_typed (source c.args.text.now c.args.script.now) c.args.name.now

pub returns-in_err-found-clause-stays_well_typed : goal.returns-in_err-found-clause-stays_well_typed
returns-in_err-found-clause-stays_well_typed g c = runs_stay_well_typed (source c.args.text.now c.args.script.now) c.args.name.now

pub returns-in_err-report_of-clause-stays_well_typed : goal.returns-in_err-report_of-clause-stays_well_typed
returns-in_err-report_of-clause-stays_well_typed g c = runs_stay_well_typed (source c.args.text.now c.args.script.now) c.args.name.now

pub returns-clause-stays_well_typed : goal.returns-clause-stays_well_typed
returns-clause-stays_well_typed g c = runs_stay_well_typed (source c.args.text.now c.args.script.now) c.args.name.now

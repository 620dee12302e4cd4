use Rattle.std.proofs.Common.{◌≡◌, ap, inr, refl, subst, sym}
use Rattle.std.specs.Prelude.{◌⊎◌, Err}
use Rattle.semantics.specs.Snapshots.{Test}
use Rattle.ttcnx.proofs.FewTold.{no-answer, no-test}
use Rattle.ttcnx.proofs.Stages.{as-error}
use Rattle.ttcnx.proofs.few.with_few_expiries.Goals as goal
use Rattle.ttcnx.specs.Fault.{explore_fault}
use Rattle.ttcnx.specs.Few.{IsAnswerFew, beyond, told}
use Rattle.ttcnx.specs.Named.{IsTestOf, source}
use Rattle.ttcnx.specs.declared.fault.Fault.TheVariants.{Memory}

pub returns-then-not-is_within_limits-clause-answer : goal.returns-then-not-is_within_limits-clause-answer
returns-then-not-is_within_limits-clause-answer g c = inr (beyond (λ fine. let off = c.if-not-is_within_limits.ensures.1 fine in cc))

pub returns-in_err-program-clause-answer : goal.returns-in_err-program-clause-answer
returns-in_err-program-clause-answer g c =
    let why = c.in_err-program.field-0.0 in
    let fine = c.if-not-is_within_limits.ensures.0 refl in
    as-error c.from_residual.result why (λ r. (r ≡ Err Memory) ⊎ IsAnswerFew (source c.args.text.now c.args.script.now) c.args.name.now c.args.patient c.args.plan.now c.args.report r)
    c.from_residual.ensures.0 c.from_residual.ensures.1 (no-test (source c.args.text.now c.args.script.now) c.args.name.now c.args.patient c.args.plan.now c.args.report fine why c.in_err-program.ensures.lacking)

pub returns-in_err-outcomes-clause-answer : goal.returns-in_err-outcomes-clause-answer
returns-in_err-outcomes-clause-answer g c =
    let error = c.in_err-outcomes.field-0.0 in
    let fine = c.if-not-is_within_limits.ensures.0 refl in
    let machine = c.in_ok-machine.machine in
    let is = subst (λ (t : Test). IsTestOf (source c.args.text.now c.args.script.now) c.args.name.now t) (sym c.in_ok-machine.ensures) c.in_ok-program.ensures.named in
    as-error c.from_residual-in_err-outcomes.result (explore_fault error) (λ r. (r ≡ Err Memory) ⊎ IsAnswerFew (source c.args.text.now c.args.script.now) c.args.name.now c.args.patient c.args.plan.now c.args.report r)
    c.from_residual-in_err-outcomes.ensures.0 c.from_residual-in_err-outcomes.ensures.1
    (no-answer (source c.args.text.now c.args.script.now) c.args.name.now c.args.patient c.args.plan.now c.args.report fine machine.test error is (λ same. c.in_err-outcomes.ensures.planned fine (ap Err same))
    (λ same. c.in_err-outcomes.ensures.too_many (ap Err same)))

pub returns-clause-answer : goal.returns-clause-answer
returns-clause-answer g c =
    let fine = c.if-not-is_within_limits.ensures.0 refl in
    let machine = c.in_ok-machine.machine in
    let is = subst (λ (t : Test). IsTestOf (source c.args.text.now c.args.script.now) c.args.name.now t) (sym c.in_ok-machine.ensures) c.in_ok-program.ensures.named in
    inr (told fine is (record { others = refl; outcomes = c.in_ok-outcomes.ensures.fewest }))

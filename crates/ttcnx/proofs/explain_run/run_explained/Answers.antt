use Rattle.std.proofs.Common.{◌≡◌, refl}
use Rattle.std.specs.Prelude.{◌⊎◌, Err}
use Rattle.ttcnx.proofs.Explaining.{sighted-answers, unsighted-answers}
use Rattle.ttcnx.proofs.Stages.{as-error}
use Rattle.ttcnx.proofs.explain_run.run_explained.Goals as goal
use Rattle.ttcnx.specs.Explained.{IsExplainedAnswer}
use Rattle.ttcnx.specs.Named.{source}
use Rattle.ttcnx.specs.declared.fault.Fault.TheVariants.{Memory}

pub returns-in_err-sighted : goal.returns-in_err-sighted
returns-in_err-sighted g c =
    let given = source c.args.text.now c.args.script.now in
    let why = c.in_err-sighted.field-0.0 in
    as-error c.from_residual.result why (λ r. (r ≡ Err Memory) ⊎ IsExplainedAnswer given c.args.name.now c.args.plan.now c.args.json r)
    c.from_residual.ensures.0 c.from_residual.ensures.1
    (unsighted-answers given c.args.name.now c.args.plan.now c.args.json _ refl refl refl why c.in_err-sighted.ensures.answer)

pub returns : goal.returns
returns g c =
    let told = c.in_ok-explain_report.ensures in
    sighted-answers (source c.args.text.now c.args.script.now) c.args.name.now c.args.plan.now c.args.json _ refl refl refl
    c.in_ok-sighted.sighted told.0 c.in_ok-explain_report.field-0 c.in_ok-sighted.ensures.answer told.1

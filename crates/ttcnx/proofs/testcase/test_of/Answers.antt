use Rattle.std.proofs.Common.{◌≡◌}
use Rattle.std.specs.Prelude.{◌⊎◌}
use Rattle.ttcnx.proofs.Stages.{case-lacks, from-error, script-lacks}
use Rattle.ttcnx.proofs.testcase.test_of.Goals as goal
use Rattle.ttcnx.specs.Fault.{script_fault}
use Rattle.ttcnx.specs.Named.{HasNoTest, source}
use Rattle.ttcnx.specs.declared.fault.Fault.TheVariants.{Memory}

pub returns-in_err-program-clause-lacking : goal.returns-in_err-program-clause-lacking
returns-in_err-program-clause-lacking c =
    let given = source c.args.text.now c.args.script.now in
    let name = c.args.name.now in
    let why = c.in_err-program.field-0.0 in
    from-error c.from_residual.result why (λ why. (why ≡ Memory) ⊎ HasNoTest given name why) c.from_residual.ensures.1 (case-lacks given name why c.in_err-program.ensures.lacking)

pub returns-in_err-script-clause-lacking : goal.returns-in_err-script-clause-lacking
returns-in_err-script-clause-lacking c =
    let given = source c.args.text.now c.args.script.now in
    let name = c.args.name.now in
    let error = c.in_err-script.field-0.0 in
    from-error c.from_residual-in_err-script.result (script_fault error) (λ why. (why ≡ Memory) ⊎ HasNoTest given name why) c.from_residual-in_err-script.ensures.1
    (script-lacks given name error c.in_ok-program.ensures.named c.in_err-script.ensures.refused)

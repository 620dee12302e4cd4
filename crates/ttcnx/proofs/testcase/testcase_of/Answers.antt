use Rattle.std.proofs.Common.{◌≡◌, inr, refl, sym}
use Rattle.std.specs.Prelude.{◌⊎◌}
use Rattle.ttcnx.proofs.Stages.{from-error, text-lacks}
use Rattle.ttcnx.proofs.testcase.testcase_of.Goals as goal
use Rattle.ttcnx.specs.Named.{HasNoCase, nameless}
use Rattle.ttcnx.specs.declared.fault.Fault.TheVariants.{Memory}

pub returns-in_err-program-clause-lacking : goal.returns-in_err-program-clause-lacking
returns-in_err-program-clause-lacking c =
    let text = c.args.text.now in
    let name = c.args.name.now in
    let why = c.in_err-program.field-0.0 in
    from-error c.from_residual.result why (λ why. (why ≡ Memory) ⊎ HasNoCase text name why) c.from_residual.ensures.1 (text-lacks text name why c.in_err-program.ensures.refused)

pub returns-in-None-clause-lacking : goal.returns-in-None-clause-lacking
returns-in-None-clause-lacking c = inr (nameless c.in_ok-program.ensures.read (sym c.in-None.ensures.named))

pub returns-in-Some-clause-named : goal.returns-in-Some-clause-named
returns-in-Some-clause-named c = record {
  tree = c.in_ok-program.program;
  is_text = c.in_ok-program.ensures.read;
  of_tree = refl;
  is_named = sym c.in-Some.ensures.named;
}

use Rattle.std.proofs.Common.{subst, sym}
use Rattle.std.specs.Prelude.{None, Some}
use Rattle.ttcn_types.specs.Refusals.{IsRefusal}
use Rattle.lint_findings.specs.Errors.{accepted, broken, unread}
use Rattle.lint_findings.specs.declared.finding.Reason.TheVariants as reason
use Rattle.lint_findings.proofs.Stages.{of-tokens}
use Rattle.lint_findings.proofs.text.of_tokens.Goals as goal

pub returns-in-Ok-check : goal.returns-in-Ok-check
returns-in-Ok-check c =
    of-tokens c.args.tokens.now None c.of_module.result (accepted c.in-Ok.ensures.read c.in-Ok-check.ensures.well_typed) c.of_module.ensures

pub returns-in-Err-Broken : goal.returns-in-Err-Broken
returns-in-Err-Broken c =
    let least = subst (IsRefusal c.in-Ok.«module».definitions) c.in-Err-Broken.field-0-is c.in-Err-Broken.ensures.refused in
    of-tokens c.args.tokens.now (Some (reason.Broken c.in-Err-Broken.rule)) c.of_module-in-Err-Broken.result (broken c.in-Ok.ensures.read least) c.of_module-in-Err-Broken.ensures

pub returns-in_ok-unparsed-in-Err : goal.returns-in_ok-unparsed-in-Err
returns-in_ok-unparsed-in-Err c =
    of-tokens c.args.tokens.now (Some c.in-Some.reason) c.alone.result (unread c.in-Err.fault c.in-Err.ensures.refused (sym c.in-Some.ensures)) c.alone.ensures

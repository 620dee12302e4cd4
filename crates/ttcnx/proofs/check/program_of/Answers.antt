use Rattle.std.proofs.Common.{sym, subst}
use Rattle.ttcn_syntax.specs.Cut.{IsCut}
use Rattle.ttcnx.specs.Checked.{IsTextOf}
use Rattle.ttcnx.specs.Fault.{grammar_fault, lexical_fault, typing_fault}
use Rattle.ttcnx.proofs.Checks.{Refuses, checking, lexing, parsing}
use Rattle.ttcnx.proofs.Stages.{cut-is-short, from-error}
use Rattle.ttcnx.proofs.check.program_of.Goals as goal

pub returns-in_err-tokens-clause-refused : goal.returns-in_err-tokens-clause-refused
returns-in_err-tokens-clause-refused c =
    let text = c.args.text.now in
    let error = c.in_err-tokens.field-0.0 in
    from-error c.from_residual.result (lexical_fault error) (Refuses text) c.from_residual.ensures.1
    (lexing text error c.in_err-tokens.ensures.too_long c.in_err-tokens.ensures.fault)

pub returns-in_err-module-clause-refused : goal.returns-in_err-module-clause-refused
returns-in_err-module-clause-refused c =
    let text = c.args.text.now in
    let tokens = c.as_slice.result.now in
    let is_cut = subst (IsCut text) (sym c.as_slice.ensures.value) c.in_ok-tokens.ensures.tokens in
    let fine = cut-is-short text c.in_ok-tokens.tokens c.in_ok-tokens.ensures.too_long in
    let error = c.in_err-module.field-0.0 in
    from-error c.from_residual-in_err-module.result (grammar_fault error) (Refuses text) c.from_residual-in_err-module.ensures.1
    (parsing text tokens error fine is_cut c.in_err-module.ensures.refused)

pub returns-in_err-check-clause-refused : goal.returns-in_err-check-clause-refused
returns-in_err-check-clause-refused c =
    let text = c.args.text.now in
    let tokens = c.as_slice.result.now in
    let is_cut = subst (IsCut text) (sym c.as_slice.ensures.value) c.in_ok-tokens.ensures.tokens in
    let fine = cut-is-short text c.in_ok-tokens.tokens c.in_ok-tokens.ensures.too_long in
    let error = c.in_err-check.field-0.0 in
    from-error c.from_residual-in_err-check.result (typing_fault error) (Refuses text) c.from_residual-in_err-check.ensures.1
    (checking text tokens c.in_ok-module.«module» error fine is_cut c.in_ok-module.ensures.read c.in_err-check.ensures.refused)

pub returns-clause-read : goal.returns-clause-read
returns-clause-read c =
    let text = c.args.text.now in
    subst (IsTextOf text) (sym c.in_ok-check.ensures.same) (record {
      tokens = c.as_slice.result.now;
      short = cut-is-short text c.in_ok-tokens.tokens c.in_ok-tokens.ensures.too_long;
      is_cut = subst (IsCut text) (sym c.as_slice.ensures.value) c.in_ok-tokens.ensures.tokens;
      is_read = c.in_ok-module.ensures.read;
      well_typed = c.in_ok-check.ensures.well_typed;
    })

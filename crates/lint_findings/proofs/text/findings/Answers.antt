use Rattle.std.proofs.Common.{sym, subst}
use Rattle.ttcn_syntax.specs.Cut.{IsCut}
use Rattle.lint_findings.proofs.Stages.{of-accepted, of-cut, of-uncut}
use Rattle.lint_findings.proofs.text.findings.Goals as goal

pub returns-in-Ok-clause-first : goal.returns-in-Ok-clause-first
returns-in-Ok-clause-first c =
    let text = c.args.text.now in
    let is_cut = subst (IsCut text) (sym c.as_slice.ensures.value) c.in-Ok.ensures.tokens in
    of-cut text c.as_slice.result.now c.in-Ok.tokens c.of_tokens.result c.in-Ok.ensures.too_long is_cut c.of_tokens.ensures

pub returns-in-Ok-clause-accepted : goal.returns-in-Ok-clause-accepted
returns-in-Ok-clause-accepted c = of-accepted c.args.text.now c.of_tokens.result (returns-in-Ok-clause-first c)

pub returns-in_ok-unlexed-in-Err-clause-first : goal.returns-in_ok-unlexed-in-Err-clause-first
returns-in_ok-unlexed-in-Err-clause-first c =
    of-uncut c.args.text.now c.in-Err.fault c.in-Some.reason c.alone.result c.in-Err.ensures.too_long c.in-Err.ensures.fault (sym c.in-Some.ensures) c.alone.ensures

pub returns-in_ok-unlexed-in-Err-clause-accepted : goal.returns-in_ok-unlexed-in-Err-clause-accepted
returns-in_ok-unlexed-in-Err-clause-accepted c = of-accepted c.args.text.now c.alone.result (returns-in_ok-unlexed-in-Err-clause-first c)

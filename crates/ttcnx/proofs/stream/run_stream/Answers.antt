use Rattle.std.proofs.Common.{refl, ap, subst, sym, ◌∙◌}
use Rattle.std.specs.Prelude.{Err}
use Rattle.ttcnx_streams.specs.Transfers.{Took, TookPart, WasRead}
use Rattle.ttcnx.proofs.OneAnswer.{one_answer}
use Rattle.ttcnx.proofs.Stages.{as-error}
use Rattle.ttcnx.proofs.Streams.{read-answers, report-answers, text-answers}
use Rattle.ttcnx.proofs.stream.run_stream.Goals as goal
use Rattle.ttcnx.specs.Named.{source}
use Rattle.ttcnx.specs.Streamed.{IsStreamed, beyond, cut_short, read_fault, starved, written}
use Rattle.ttcnx.specs.declared.fault.Fault.TheVariants.{Memory}
use Rattle.ttcnx.specs.declared.stream.StreamFault.TheVariants.{Refused, Write}

pub returns-then-not-is_within_limits-clause-streamed : goal.returns-then-not-is_within_limits-clause-streamed
returns-then-not-is_within_limits-clause-streamed g c = beyond (λ fine. let off = c.if-not-is_within_limits.ensures.1 fine in cc) refl

pub returns-in_err-text-clause-streamed : goal.returns-in_err-text-clause-streamed
returns-in_err-text-clause-streamed g c =
    let error = c.in_err-text.field-0.0 in
    let fine = c.if-not-is_within_limits.ensures.0 refl in
    let failed = c.in_err-text.ensures in
    as-error c.from_residual.result (read_fault error) (IsStreamed c.args.script.now c.args.name.now c.args.plan.now c.args.json _ _) c.from_residual.ensures.0 c.from_residual.ensures.1
    (read-answers c.args.script.now c.args.name.now c.args.plan.now c.args.json _ _ error fine (λ is. failed.failed (ap Err is)) (λ is. failed.refused (ap Err is)) refl)

pub returns-in_err-report-clause-streamed : goal.returns-in_err-report-clause-streamed
returns-in_err-report-clause-streamed g c =
    let why = c.in_err-report.field-0.0 in
    let read = subst (WasRead _ _ _) (sym c.deref.ensures.value) c.in_ok-text.ensures.read in
    let fine = c.if-not-is_within_limits.ensures.0 refl in
    as-error c.from_residual-in_err-report.result (Refused why) (IsStreamed c.args.script.now c.args.name.now c.args.plan.now c.args.json _ _)
    c.from_residual-in_err-report.ensures.0 c.from_residual-in_err-report.ensures.1
    (text-answers c.args.script.now c.args.name.now c.args.plan.now c.args.json _ _ why fine read refl c.in_err-report.ensures.answer)

pub returns-in_err-told-clause-streamed : goal.returns-in_err-told-clause-streamed
returns-in_err-told-clause-streamed g c =
    let fine = c.if-not-is_within_limits.ensures.0 refl in
    as-error c.from_residual-in_err-told.result (Refused Memory) (IsStreamed c.args.script.now c.args.name.now c.args.plan.now c.args.json _ _)
    c.from_residual-in_err-told.ensures.0 c.from_residual-in_err-told.ensures.1
    (starved fine (_, c.in_ok-text.ensures.read.gave) refl)

pub returns-in_err-write_whole-clause-streamed : goal.returns-in_err-write_whole-clause-streamed
returns-in_err-write_whole-clause-streamed g c =
    let read = subst (WasRead _ _ _) (sym c.deref.ensures.value) c.in_ok-text.ensures.read in
    let fine = c.if-not-is_within_limits.ensures.0 refl in
    let told = c.as_bytes.ensures.value ∙ c.in_ok-told.ensures in
    let part = c.in_err-write_whole.ensures.took_part in
    as-error c.from_residual-in_err-write_whole.result Write (IsStreamed c.args.script.now c.args.name.now c.args.plan.now c.args.json _ _)
    c.from_residual-in_err-write_whole.ensures.0 c.from_residual-in_err-write_whole.ensures.1
    (cut_short fine read (report-answers c.in_ok-report.report c.in_ok-report.ensures.answer) (subst (TookPart _ _) told part))

pub returns-clause-streamed : goal.returns-clause-streamed
returns-clause-streamed g c =
    let read = subst (WasRead _ _ _) (sym c.deref.ensures.value) c.in_ok-text.ensures.read in
    let fine = c.if-not-is_within_limits.ensures.0 refl in
    let told = c.as_bytes.ensures.value ∙ c.in_ok-told.ensures in
    written fine read (report-answers c.in_ok-report.report c.in_ok-report.ensures.answer) (subst (Took _ _) told c.in_ok-write_whole.ensures.took)

pub returns-in_err-text-clause-one : goal.returns-in_err-text-clause-one
returns-in_err-text-clause-one g c = λ text. one_answer (source text c.args.script.now) c.args.name.now c.args.plan.now

pub returns-in_err-report-clause-one : goal.returns-in_err-report-clause-one
returns-in_err-report-clause-one g c = λ text. one_answer (source text c.args.script.now) c.args.name.now c.args.plan.now

pub returns-in_err-told-clause-one : goal.returns-in_err-told-clause-one
returns-in_err-told-clause-one g c = λ text. one_answer (source text c.args.script.now) c.args.name.now c.args.plan.now

pub returns-in_err-write_whole-clause-one : goal.returns-in_err-write_whole-clause-one
returns-in_err-write_whole-clause-one g c = λ text. one_answer (source text c.args.script.now) c.args.name.now c.args.plan.now

pub returns-clause-one : goal.returns-clause-one
returns-clause-one g c = λ text. one_answer (source text c.args.script.now) c.args.name.now c.args.plan.now

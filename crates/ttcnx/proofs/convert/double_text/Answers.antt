use Rattle.std.proofs.Common.{rules, ◌≡◌, ap, subst, sym, ◌∙◌}
use Rattle.std.specs.List.{flat_map}
use Rattle.std.specs.Prelude.{◌⊎◌, Err}
use Rattle.report.specs.Labels.{fine_text}
use Rattle.report.specs.Runs.{ReadsRun, lines_of}
use Rattle.report.specs.Texts.{line}
use Rattle.semantics.specs.Snapshots.{Test}
use Rattle.ttcnx.proofs.Conversions.{double-answers, doubled-answers, name-converts, plain-listing}
use Rattle.ttcnx.proofs.Stages.{as-error}
use Rattle.ttcnx.proofs.convert.double_text.Goals as goal
use Rattle.ttcnx.specs.Converted.{IsDoubled, OfPlainRun}
use Rattle.ttcnx.specs.Fault.{replay_fault, listing_fault}
use Rattle.ttcnx.specs.Named.{IsTestOf, source}
use Rattle.ttcnx.specs.declared.fault.Fault.TheVariants.{Memory}

pub returns-in_err-program-clause-answer : goal.returns-in_err-program-clause-answer
returns-in_err-program-clause-answer c =
    let why = c.in_err-program.field-0.0 in
    as-error c.from_residual.result why (λ r. (r ≡ Err Memory) ⊎ IsDoubled (source c.args.text.now c.args.script.now) c.args.name.now c.args.run.now r)
    c.from_residual.ensures.0 c.from_residual.ensures.1 (name-converts (OfPlainRun c.args.run.now) (source c.args.text.now c.args.script.now) c.args.name.now why c.in_err-program.ensures.lacking)

pub returns-in_err-labels-clause-answer : goal.returns-in_err-labels-clause-answer
returns-in_err-labels-clause-answer c =
    let error = c.in_err-labels.field-0.0 in
    as-error c.from_residual-in_err-labels.result (listing_fault error) (λ r. (r ≡ Err Memory) ⊎ IsDoubled (source c.args.text.now c.args.script.now) c.args.name.now c.args.run.now r)
    c.from_residual-in_err-labels.ensures.0 c.from_residual-in_err-labels.ensures.1
    (plain-listing (source c.args.text.now c.args.script.now) c.args.name.now c.args.run.now _ error c.in_ok-program.ensures.named c.in_err-labels.ensures.err)

pub returns-in_err-fine-clause-answer : goal.returns-in_err-fine-clause-answer
returns-in_err-fine-clause-answer c =
    let error = c.in_err-fine.field-0.0 in
    let machine = c.in_ok-machine.machine in
    let is = subst (λ (t : Test). IsTestOf (source c.args.text.now c.args.script.now) c.args.name.now t) (sym c.in_ok-machine.ensures) c.in_ok-program.ensures.named in
    let reads = subst (ReadsRun (lines_of c.args.run.now)) (sym c.as_slice.ensures.value) c.in_ok-labels.ensures.ok in
    as-error c.from_residual-in_err-fine.result (replay_fault error) (λ r. (r ≡ Err Memory) ⊎ IsDoubled (source c.args.text.now c.args.script.now) c.args.name.now c.args.run.now r)
    c.from_residual-in_err-fine.ensures.0 c.from_residual-in_err-fine.ensures.1
    (double-answers (source c.args.text.now c.args.script.now) c.args.name.now c.args.run.now machine c.as_slice.result.now error is reads c.in_err-fine.ensures.doubles)

pub returns-clause-answer : goal.returns-clause-answer
returns-clause-answer c =
    let machine = c.in_ok-machine.machine in
    let is = subst (λ (t : Test). IsTestOf (source c.args.text.now c.args.script.now) c.args.name.now t) (sym c.in_ok-machine.ensures) c.in_ok-program.ensures.named in
    let reads = subst (ReadsRun (lines_of c.args.run.now)) (sym c.as_slice.ensures.value) c.in_ok-labels.ensures.ok in
    let told : c.into_bytes.result.items ≡ flat_map (λ label. line (fine_text label)) c.as_slice-2.result.now = search rules in
    doubled-answers (source c.args.text.now c.args.script.now) c.args.name.now c.args.run.now machine c.as_slice.result.now c.in_ok-fine.fine c.into_bytes.result is reads c.in_ok-fine.ensures.doubles c.in_ok-fine.ensures.fine
    (told ∙ ap (flat_map (λ label. line (fine_text label))) c.as_slice-2.ensures.value)

use Rattle.std.proofs.Common.{◌≡◌, inl, refl, subst, sym}
use Rattle.std.specs.Prelude.{◌⊎◌, Err}
use Rattle.chart_steps.specs.Stories.{last_of}
use Rattle.report.specs.Runs.{ReadsRun, lines_of}
use Rattle.semantics.specs.Snapshots.{Test}
use Rattle.ttcn_step.specs.Machines.{said}
use Rattle.ttcnx.proofs.Conversions.{name-converts}
use Rattle.ttcnx.proofs.Explaining.{chart-answers, explained-listing, refusal-answers}
use Rattle.ttcnx.proofs.Stages.{as-error}
use Rattle.ttcnx.proofs.explain.explain_text.Goals as goal
use Rattle.ttcnx.specs.Explained.{IsExplained, OfExplainedRun}
use Rattle.ttcnx.specs.Fault.{listing_fault, replay_fault}
use Rattle.ttcnx.specs.Named.{IsTestOf, source}
use Rattle.ttcnx.specs.declared.fault.Fault.TheVariants.{Memory}

pub returns-in_err-program-clause-answer : goal.returns-in_err-program-clause-answer
returns-in_err-program-clause-answer c =
    let why = c.in_err-program.field-0.0 in
    as-error c.from_residual.result why (λ r. (r ≡ Err Memory) ⊎ IsExplained (source c.args.text.now c.args.script.now) c.args.name.now c.args.run.now r)
    c.from_residual.ensures.0 c.from_residual.ensures.1 (name-converts (OfExplainedRun c.args.run.now) (source c.args.text.now c.args.script.now) c.args.name.now why c.in_err-program.ensures.lacking)

pub returns-in_err-labels-clause-answer : goal.returns-in_err-labels-clause-answer
returns-in_err-labels-clause-answer c =
    let error = c.in_err-labels.field-0.0 in
    as-error c.from_residual-in_err-labels.result (listing_fault error) (λ r. (r ≡ Err Memory) ⊎ IsExplained (source c.args.text.now c.args.script.now) c.args.name.now c.args.run.now r)
    c.from_residual-in_err-labels.ensures.0 c.from_residual-in_err-labels.ensures.1
    (explained-listing (source c.args.text.now c.args.script.now) c.args.name.now c.args.run.now _ error c.in_ok-program.ensures.named c.in_err-labels.ensures.err)

pub returns-in_err-story-clause-answer : goal.returns-in_err-story-clause-answer
returns-in_err-story-clause-answer c =
    let error = c.in_err-story.field-0.0 in
    let machine = c.in_ok-machine.machine in
    let is = subst (λ (t : Test). IsTestOf (source c.args.text.now c.args.script.now) c.args.name.now t) (sym c.in_ok-machine.ensures) c.in_ok-program.ensures.named in
    let reads = subst (ReadsRun (lines_of c.args.run.now)) (sym c.as_slice.ensures.value) c.in_ok-labels.ensures.ok in
    as-error c.from_residual-in_err-story.result (replay_fault error) (λ r. (r ≡ Err Memory) ⊎ IsExplained (source c.args.text.now c.args.script.now) c.args.name.now c.args.run.now r)
    c.from_residual-in_err-story.ensures.0 c.from_residual-in_err-story.ensures.1
    (refusal-answers (source c.args.text.now c.args.script.now) c.args.name.now c.args.run.now machine c.as_slice.result.now error is reads c.in_err-story.ensures.refused)

pub returns-clause-answer : goal.returns-clause-answer
returns-clause-answer c =
    let machine = c.in_ok-machine.machine in
    let story = c.in_ok-story.story in
    let is = subst (λ (t : Test). IsTestOf (source c.args.text.now c.args.script.now) c.args.name.now t) (sym c.in_ok-machine.ensures) c.in_ok-program.ensures.named in
    let reads = subst (ReadsRun (lines_of c.args.run.now)) (sym c.as_slice.ensures.value) c.in_ok-labels.ensures.ok in
    chart-answers (source c.args.text.now c.args.script.now) c.args.name.now c.args.run.now machine c.as_slice.result.now (said machine (last_of story.start story.steps.items)) c.into_bytes.result is reads c.in_ok-story.ensures.ends

use Rattle.std.proofs.Common.{◌≡◌, ◌++◌, inl, length, refl, sym, ap, subst, ◌∙◌}
use Rattle.std.specs.Fmt.{decimal}
use Rattle.std.specs.Prelude.{◌⊎◌, Err, codes}
use Rattle.report.specs.Texts.{line}
use Rattle.report.specs.Runs.{ReadsRun, lines_of}
use Rattle.semantics.specs.Snapshots.{Test}
use Rattle.ttcnx.proofs.Following.{end-answers, listing-answers, name-answers, replay-answers}
use Rattle.ttcnx.proofs.Stages.{as-error}
use Rattle.ttcnx.proofs.WellTyped.{runs_stay_well_typed}
use Rattle.ttcnx.proofs.replay.replay_text.Goals as goal
use Rattle.ttcnx.specs.Fault.{listing_fault, replay_fault}
use Rattle.ttcnx.specs.Named.{IsTestOf, source}
use Rattle.ttcnx.specs.Replayed.{IsReplay}
use Rattle.ttcnx.specs.declared.fault.Fault.TheVariants.{Memory}

pub returns-in_err-program-clause-answer : goal.returns-in_err-program-clause-answer
returns-in_err-program-clause-answer c =
    let why = c.in_err-program.field-0.0 in
    as-error c.from_residual.result why (λ r. (r ≡ Err Memory) ⊎ IsReplay (source c.args.text.now c.args.script.now) c.args.name.now c.args.run.now r)
    c.from_residual.ensures.0 c.from_residual.ensures.1 (name-answers (source c.args.text.now c.args.script.now) c.args.name.now c.args.run.now why c.in_err-program.ensures.lacking)

pub returns-in_err-labels-clause-answer : goal.returns-in_err-labels-clause-answer
returns-in_err-labels-clause-answer c =
    let error = c.in_err-labels.field-0.0 in
    as-error c.from_residual-in_err-labels.result (listing_fault error) (λ r. (r ≡ Err Memory) ⊎ IsReplay (source c.args.text.now c.args.script.now) c.args.name.now c.args.run.now r)
    c.from_residual-in_err-labels.ensures.0 c.from_residual-in_err-labels.ensures.1
    (listing-answers (source c.args.text.now c.args.script.now) c.args.name.now c.args.run.now _ error c.in_ok-program.ensures.named c.in_err-labels.ensures.err)

pub returns-in_err-config-clause-answer : goal.returns-in_err-config-clause-answer
returns-in_err-config-clause-answer c =
    let error = c.in_err-config.field-0.0 in
    let machine = c.in_ok-machine.machine in
    let is = subst (λ (t : Test). IsTestOf (source c.args.text.now c.args.script.now) c.args.name.now t) (sym c.in_ok-machine.ensures) c.in_ok-program.ensures.named in
    let reads = subst (ReadsRun (lines_of c.args.run.now)) (sym c.as_slice.ensures.value) c.in_ok-labels.ensures.ok in
    as-error c.from_residual-in_err-config.result (replay_fault error) (λ r. (r ≡ Err Memory) ⊎ IsReplay (source c.args.text.now c.args.script.now) c.args.name.now c.args.run.now r)
    c.from_residual-in_err-config.ensures.0 c.from_residual-in_err-config.ensures.1
    (replay-answers (source c.args.text.now c.args.script.now) c.args.name.now c.args.run.now machine c.as_slice.result.now error is reads c.in_err-config.ensures.ends)

pub returns-in_err-ending-clause-answer : goal.returns-in_err-ending-clause-answer
returns-in_err-ending-clause-answer c =
    as-error c.from_residual-in_err-ending.result Memory (λ r. (r ≡ Err Memory) ⊎ IsReplay (source c.args.text.now c.args.script.now) c.args.name.now c.args.run.now r)
    c.from_residual-in_err-ending.ensures.0 c.from_residual-in_err-ending.ensures.1 (inl refl)

pub returns-in_err-replayed-clause-answer : goal.returns-in_err-replayed-clause-answer
returns-in_err-replayed-clause-answer c =
    as-error c.from_residual-in_err-replayed.result Memory (λ r. (r ≡ Err Memory) ⊎ IsReplay (source c.args.text.now c.args.script.now) c.args.name.now c.args.run.now r)
    c.from_residual-in_err-replayed.ensures.0 c.from_residual-in_err-replayed.ensures.1 (inl refl)

pub returns-clause-answer : goal.returns-clause-answer
returns-clause-answer c =
    let machine = c.in_ok-machine.machine in
    let is = subst (λ (t : Test). IsTestOf (source c.args.text.now c.args.script.now) c.args.name.now t) (sym c.in_ok-machine.ensures) c.in_ok-program.ensures.named in
    let reads = subst (ReadsRun (lines_of c.args.run.now)) (sym c.as_slice.ensures.value) c.in_ok-labels.ensures.ok in
    let count = c.len-count.ensures ∙ sym c.as_slice.ensures.len in
    let ending = c.as_str.ensures.value ∙ c.in_ok-ending.ensures in
    end-answers (source c.args.text.now c.args.script.now) c.args.name.now c.args.run.now machine c.as_slice.result.now c.in_ok-config.config c.into_bytes.result is reads c.in_ok-config.ensures.ends
    (ap (λ bytes. bytes.items) c.into_bytes.ensures.value ∙ c.in_ok-replayed.ensures
    ∙ ap (λ n. line (codes "replayed " ++ decimal n) ++ line c.as_str.result.now) count
    ∙ ap (λ e. line (codes "replayed " ++ decimal (length c.as_slice.result.now)) ++ line e) ending)

pub returns-in_err-program-clause-stays_well_typed : goal.returns-in_err-program-clause-stays_well_typed
returns-in_err-program-clause-stays_well_typed c = runs_stay_well_typed (source c.args.text.now c.args.script.now) c.args.name.now

pub returns-in_err-labels-clause-stays_well_typed : goal.returns-in_err-labels-clause-stays_well_typed
returns-in_err-labels-clause-stays_well_typed c = runs_stay_well_typed (source c.args.text.now c.args.script.now) c.args.name.now

pub returns-in_err-machine-clause-stays_well_typed : goal.returns-in_err-machine-clause-stays_well_typed
returns-in_err-machine-clause-stays_well_typed c = runs_stay_well_typed (source c.args.text.now c.args.script.now) c.args.name.now

pub returns-in_err-config-clause-stays_well_typed : goal.returns-in_err-config-clause-stays_well_typed
returns-in_err-config-clause-stays_well_typed c = runs_stay_well_typed (source c.args.text.now c.args.script.now) c.args.name.now

pub returns-in_err-ending-clause-stays_well_typed : goal.returns-in_err-ending-clause-stays_well_typed
returns-in_err-ending-clause-stays_well_typed c = runs_stay_well_typed (source c.args.text.now c.args.script.now) c.args.name.now

pub returns-in_err-replayed-clause-stays_well_typed : goal.returns-in_err-replayed-clause-stays_well_typed
returns-in_err-replayed-clause-stays_well_typed c = runs_stay_well_typed (source c.args.text.now c.args.script.now) c.args.name.now

pub returns-clause-stays_well_typed : goal.returns-clause-stays_well_typed
returns-clause-stays_well_typed c = runs_stay_well_typed (source c.args.text.now c.args.script.now) c.args.name.now

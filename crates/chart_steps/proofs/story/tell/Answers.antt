use Rattle.std.proofs.Common.{◌≡◌, ◌+◌, ◌++◌, ◌∷◌, [], List, drop, take, ap, subst, sym, ◌∙◌}
use Rattle.std.proofs.lemmas.List.{take_more}
use Rattle.chart_steps.proofs.Steps.{handed-on, last-more, refused-at, told-more}
use Rattle.chart_steps.proofs.story.tell.Goals as goal
use Rattle.chart_steps.specs.Stories.{AreTold, IsTold, Refuses, last_of}
use Rattle.chart_steps.specs.declared.story.Told.{Told}
use Rattle.chart_steps.specs.internal.Telling.{TellsStep}
use Rattle.config_parts.specs.declared.config.Config.{Config}
use Rattle.semantics.specs.Runs.{replay, replay_from}
use Rattle.semantics.specs.Steps.{Label}
use Rattle.std.specs.Prelude.{Err}
use Rattle.ttcn_step.proofs.Replaying.{run-goes-on}
use Rattle.ttcn_step.specs.Machines.{Fits, said}

pub loop-place-init : goal.loop-place-init
loop-place-init c =
    let machine = c.args.machine.now in
    let run = c.args.run.now in
    let start = c.in_ok-start.start in
    let none = c.new-steps.ensures.items in
    record {
      start = c.in_ok-start.ensures.start;
      leads = ap (λ (steps : List Told). replay_from machine.test run 1 (said machine (last_of start steps))) none ∙ ap (replay_from machine.test run 1) c.in_ok-start.ensures.start;
      told = subst (AreTold machine start []) (sym none) tt;
      fits = subst (λ (steps : List Told). Fits machine (last_of start steps)) (sym none) c.in_ok-start.ensures.fits;
    }

pub loop-place-preserved : goal.loop-place-preserved
loop-place-preserved c =
    let machine = c.args.machine.now in
    let run = c.args.run.now in
    let place = c.loop-place.place in
    let start = c.loop-place.start-1 in
    let steps = c.loop-place.steps.items in
    let label = c.index-run-place.result in
    let told = c.in_ok-told.told in
    let before : c.last_of-config.result.now ≡ last_of start steps = c.last_of-config.ensures ∙ ap (last_of start) c.as_slice.ensures.value in
    let is : IsTold machine (last_of start steps) label told = subst (λ (d : Config). IsTold machine d label told) before c.in_ok-told.ensures.told in
    let behind : last_of start c.push.new.steps.items ≡ told.behind = ap (last_of start) c.in_ok-push.ensures ∙ last-more start steps told in
    record {
      start = c.loop-place.invariant.start;
      leads =
          ap (λ (d : Config). replay_from machine.test (drop (place + 1) run) (place + 1 + 1) (said machine d)) behind
          ∙ run-goes-on machine.test run place label (said machine (last_of start steps)) (said machine told.behind) (replay machine.test run)
          c.loop-place-test.true c.index-run-place.is is.leads c.loop-place.invariant.leads;
      told =
          subst (λ (labels : List Label). AreTold machine start labels c.push.new.steps.items) (ap (λ x. take place run ++ x ∷ []) c.index-run-place.is ∙ sym (take_more run place label c.loop-place-test.true))
          (subst (AreTold machine start (take place run ++ label ∷ [])) (sym c.in_ok-push.ensures) (told-more machine start (take place run) steps label told c.loop-place.invariant.told is));
      fits = subst (Fits machine) (sym behind) c.in_ok-told.ensures.fits;
    }

pub returns-in_err-told-clause-refused : goal.returns-in_err-told-clause-refused
returns-in_err-told-clause-refused c =
    let machine = c.args.machine.now in
    let run = c.args.run.now in
    let place = c.loop-place.place in
    let start = c.loop-place.start-1 in
    let steps = c.loop-place.steps.items in
    let label = c.index-run-place.result in
    let error = c.in_err-told.field-0.0 in
    let before : c.last_of-config.result.now ≡ last_of start steps = c.last_of-config.ensures ∙ ap (last_of start) c.as_slice.ensures.value in
    let tells : TellsStep machine (last_of start steps) label (place + 1) (Err error) = subst (λ (d : Config). TellsStep machine d label (place + 1) (Err error)) before c.in_err-told.ensures.told in
    handed-on c.from_residual-in_err-told.result error (Refuses machine run) c.from_residual-in_err-told.ensures.1
    (refused-at machine run place (last_of start steps) label error c.loop-place-test.true c.index-run-place.is tells c.loop-place.invariant.leads)

pub returns-clause-start : goal.returns-clause-start
returns-clause-start c = c.loop-place.invariant.start

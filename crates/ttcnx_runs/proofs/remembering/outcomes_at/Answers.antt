use Rattle.std.proofs.Common.{[], ◌∷◌, ◌++◌, ap, map, ◌∙◌}
use Rattle.std.proofs.lemmas.List.Elements.{All-push, All-same}
use Rattle.laws_local.specs.Alone.{is_of_path}
use Rattle.ttcnx_runs.proofs.Making.{all-steps, here-of, none-more, one-more, steps-are}
use Rattle.ttcnx_runs.proofs.remembering.outcomes_at.Goals as goal
use Rattle.ttcnx_runs.proofs.remembering.outcomes_at.Goals.{then-is_of+in_ok-outcome_of+in_ok-push, else-is_of}
use Rattle.ttcnx_runs.specs.internal.Makes.{step_of}
use Rattle.ttcnx_runs.specs.Remembered.{IsEffectWithin, place_at, shown}
use Rattle.value_types.specs.declared.path.Path.{Path}

pub loop-step-preserved : goal.loop-step-preserved
loop-step-preserved g c =
    let machine = g.K.Scheme.machine in
    let path = c.args.path.now in
    let s = c.step-item.result in
    elim c.if-is_of.branch [
      | then-is_of+in_ok-outcome_of+in_ok-push w ↦
          let longer = ◌∙◌ {c = c.loop-step.outcomes.items ++ w.in_ok-outcome_of.field-0 ∷ []} (ap (λ v. v.items) w.outcomes-is) w.in_ok-push.ensures.items in record {
            made = λ going component is live here of h i d living found key.
                one-more (λ x. x.label) (is_of_path path) (step_of machine h) (shown machine h i d) c.args.steps.now c.loop-step.step-index s c.loop-step-test.true c.step-item.is
                c.loop-step.outcomes.items c.if-is_of.outcomes.items w.in_ok-outcome_of.field-0 c.is_of.result longer c.is_of.ensures w.if-is_of.true
                (w.in_ok-outcome_of.ensures.made going component (here-of machine c.args.config.now going c.args.at component s.label path c.is_of.result is live here of c.is_of.ensures w.if-is_of.true) h i d living found key)
                (c.loop-step.invariant.made going component is live here of h i d living found key);
            placed = λ going component is live here of h i d living found key.
                one-more (λ x. x.label) (is_of_path path) (place_at machine h) (λ outcome. outcome.event) c.args.steps.now c.loop-step.step-index s c.loop-step-test.true c.step-item.is
                c.loop-step.outcomes.items c.if-is_of.outcomes.items w.in_ok-outcome_of.field-0 c.is_of.result longer c.is_of.ensures w.if-is_of.true
                (w.in_ok-outcome_of.ensures.placed going component (here-of machine c.args.config.now going c.args.at component s.label path c.is_of.result is live here of c.is_of.ensures w.if-is_of.true) h i d living found key)
                (c.loop-step.invariant.placed going component is live here of h i d living found key);
            within = λ going component is live here of h i d living found key.
                All-same (λ outcome. IsEffectWithin machine h i outcome.effect) c.if-is_of.outcomes.items (c.loop-step.outcomes.items ++ w.in_ok-outcome_of.field-0 ∷ []) longer
                (All-push (λ outcome. IsEffectWithin machine h i outcome.effect) c.loop-step.outcomes.items w.in_ok-outcome_of.field-0
                (c.loop-step.invariant.within going component is live here of h i d living found key)
                (w.in_ok-outcome_of.ensures.within going component (here-of machine c.args.config.now going c.args.at component s.label path c.is_of.result is live here of c.is_of.ensures w.if-is_of.true) h i d living found key));
          }
      | else-is_of w ↦ record {
        made = λ going component is live here of h i d living found key.
            none-more (λ x. x.label) (is_of_path path) (step_of machine h) (shown machine h i d) c.args.steps.now c.loop-step.step-index s c.loop-step-test.true c.step-item.is
            c.loop-step.outcomes.items c.if-is_of.outcomes.items c.is_of.result (ap (λ v. v.items) w.outcomes-is) c.is_of.ensures w.if-is_of.false (c.loop-step.invariant.made going component is live here of h i d living found key);
        placed = λ going component is live here of h i d living found key.
            none-more (λ x. x.label) (is_of_path path) (place_at machine h) (λ outcome. outcome.event) c.args.steps.now c.loop-step.step-index s c.loop-step-test.true c.step-item.is
            c.loop-step.outcomes.items c.if-is_of.outcomes.items c.is_of.result (ap (λ v. v.items) w.outcomes-is) c.is_of.ensures w.if-is_of.false (c.loop-step.invariant.placed going component is live here of h i d living found key);
        within = λ going component is live here of h i d living found key.
            All-same (λ outcome. IsEffectWithin machine h i outcome.effect) c.if-is_of.outcomes.items c.loop-step.outcomes.items (ap (λ v. v.items) w.outcomes-is)
            (c.loop-step.invariant.within going component is live here of h i d living found key);
      }
    ]

pub returns : goal.returns
returns g c going component is live here of =
    let machine = g.K.Scheme.machine in
    let path = c.args.path.now in record {
      steps = steps-are machine (shown machine) (step_of machine) c.args.config.now going c.args.at component path.numbers is live here (ap (λ (p : Path). p.numbers) of) (map (λ x. x.label) c.args.steps.now) c.requires.steps.enabled c.loop-step.outcomes.items
          (λ h i d living found key.
          all-steps (λ x. x.label) (is_of_path path) (step_of machine h) (shown machine h i d) c.args.steps.now c.loop-step.step-index c.loop-step.outcomes.items c.loop-step-test.false
          (c.loop-step.invariant.made going component is live here of h i d living found key));
      places = steps-are machine (λ h i d outcome. outcome.event) (place_at machine) c.args.config.now going c.args.at component path.numbers is live here (ap (λ (p : Path). p.numbers) of) (map (λ x. x.label) c.args.steps.now) c.requires.steps.enabled c.loop-step.outcomes.items
          (λ h i d living found key.
          all-steps (λ x. x.label) (is_of_path path) (place_at machine h) (λ outcome. outcome.event) c.args.steps.now c.loop-step.step-index c.loop-step.outcomes.items c.loop-step-test.false
          (c.loop-step.invariant.placed going component is live here of h i d living found key));
      within = c.loop-step.invariant.within going component is live here of;
    }

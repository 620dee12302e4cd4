-- The labels of a run, from its last step back.
use Rattle.std.proofs.Common.{◌≡◌, ℕ, ◌<◌, List, [], ◌∷◌, ◌++◌, length, sym, ap, subst, ◌∙◌, append_assoc}
use Rattle.std.specs.Prelude.{reverse, Option, None, Some, IfSome}
use Rattle.std.proofs.lemmas.List.{reverse-append}
use Rattle.summary.specs.Run.{Run, Start, Then, labels_of}
use Rattle.search_layer.specs.declared.visited.Step.{Step}
use Rattle.explore.specs.internal.Tied.{run_at, step_at, GoBack, Tells, AreLastSteps}

module _ {L : Type 0} where
  -- one step back
  pub step-back : (runs : List (Run L)) (steps : List (Option (Step L))) (at : ℕ) (step : Step L) (labels : List L) (label : L) (all : List L)
      → AreLastSteps runs steps → at < length steps → step_at steps at ≡ Some step → label ≡ step.label
      → all ≡ labels_of (run_at runs at) ++ reverse labels → all ≡ labels_of (run_at runs step.before) ++ reverse (labels ++ label ∷ [])
  step-back runs steps at step labels label all h lt is same e =
      let told : run_at runs at ≡ Then (run_at runs step.before) step.label = subst (Tells runs (run_at runs at)) is (h.tell at lt) in
      e
      ∙ ap (λ r. labels_of r ++ reverse labels) told
      ∙ ap (λ l. (labels_of (run_at runs step.before) ++ l ∷ []) ++ reverse labels) (sym same)
      ∙ append_assoc (labels_of (run_at runs step.before)) (label ∷ []) (reverse labels)
      ∙ ap (λ more. labels_of (run_at runs step.before) ++ more) (sym (reverse-append labels (label ∷ [])))

  -- where no step leads back, the run is the empty one
  pub no-step : (runs : List (Run L)) (steps : List (Option (Step L))) (at : ℕ) → AreLastSteps runs steps → at < length steps → step_at steps at ≡ None → run_at runs at ≡ Start
  no-step runs steps at h lt is = subst (Tells runs (run_at runs at)) is (h.tell at lt)

  pub before-within : (steps : List (Option (Step L))) (at : ℕ) (step : Step L) → GoBack steps → at < length steps → step_at steps at ≡ Some step → step.before < at
  before-within steps at step back lt is = subst (λ o. IfSome o (λ s. s.before < at)) is (back at lt)

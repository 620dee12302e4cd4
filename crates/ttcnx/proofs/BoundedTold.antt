-- What a report tells of the runs that keep a bound, from what was found, and why there is none.
use Rattle.std.proofs.Common.{◌≡◌, ◌≤◌, ℕ, Bool, List, false, ap, inl, inr, refl, sym, subst, ◌∙◌}
use Rattle.std.specs.Prelude.{◌⊎◌, ◌↔◌, Err, IsTrue, Result, string_bytes}
use Rattle.explore.specs.declared.ending.Stops.{Stops}
use Rattle.laws_bounds.specs.BoundedParts.{CountsBounded, IsCompleteBounded}
use Rattle.report.specs.declared.report.Report.{Report}
use Rattle.search_bounds.specs.declared.bound.Bound.{Bound}
use Rattle.search_layer.specs.Limits.{IsWithinLimits}
use Rattle.search_layer.specs.declared.plan.ExploreError.{ExploreError}
use Rattle.search_layer.specs.declared.plan.ExploreError.TheVariants as searching
use Rattle.search_layer.specs.declared.plan.Plan.{Plan}
use Rattle.semantics.specs.Snapshots.{Test}
use Rattle.step_labels.specs.declared.standing.Standing.{Standing}
use Rattle.ttcn_syntax.specs.declared.place.Span.{Span}
use Rattle.ttcnx.proofs.Outcomes.{kept, outcomes_of-kept}
use Rattle.ttcnx.proofs.Told.{IsMadeOf}
use Rattle.ttcnx.specs.Bounded.{IsAnswerBounded, TellsBounded, TellsOfBoundedRuns, lacking, too_many}
use Rattle.ttcnx.specs.Fault.{explore_fault}
use Rattle.ttcnx.specs.Named.{HasNoTest, IsTestOf, Source}
use Rattle.ttcnx.specs.declared.fault.Fault.{Fault}
use Rattle.ttcnx.specs.declared.fault.Fault.TheVariants as fault
use Rattle.ttcnx.specs.declared.until.Until.{Until}
use Rattle.ttcnx_bounds.specs.BoundedEndings.{AreTooManyBounded}
use Rattle.ttcnx_bounds.specs.BoundedFound.{AreBlockedBounded, AreBranchesBounded, AreFoundBounded}
use Rattle.ttcnx_runs.specs.declared.exploration.Exploration.{Exploration}

module _ (test : Test) (bound : Bound) (found : Exploration) (report : Report) (made : IsMadeOf found report) where
  pub tells-of-bounded : (n : ℕ) → AreFoundBounded test bound n found → TellsOfBoundedRuns test bound n report
  tells-of-bounded n are = record {
    configurations = subst (λ (count : ℕ). CountsBounded test bound n count) (sym made.configurations) are.configurations;
    run_of = kept found.best.items;
    best = are.best;
    outcomes = made.outcomes ∙ outcomes_of-kept found.best.items are.eight;
    branches = subst (λ (places : List Span). AreBranchesBounded test bound n places) (sym made.branches) are.branches;
    blocked = subst (λ (standings : List Standing). AreBlockedBounded test bound n standings) (sym made.blocked) are.blocked;
  }

  pub tells-bounded : (name : List ℕ) (plan : Plan) (n : ℕ) → string_bytes report.testcase ≡ name → report.steps ≡ n → n ≤ plan.steps → AreFoundBounded test bound n found
      → found.configurations ≤ plan.limit → (IsTrue found.complete ↔ IsCompleteBounded test bound n) → TellsBounded test name bound plan report
  tells-bounded name plan n testcase steps low are within complete = record {
    testcase = testcase;
    steps = subst (λ (k : ℕ). k ≤ plan.steps) (sym steps) low;
    within = subst (λ (count : ℕ). count ≤ plan.limit) (sym made.configurations) within;
    runs = subst (λ (k : ℕ). TellsOfBoundedRuns test bound k report) (sym steps) (tells-of-bounded n are);
    complete = subst (λ (k : ℕ). IsTrue report.complete ↔ IsCompleteBounded test bound k) (sym steps)
        (subst (λ (b : Bool). IsTrue b ↔ IsCompleteBounded test bound n) (sym made.complete) complete);
  }

module _ (given : Source) (name : List ℕ) (bound : Bound) (plan : Plan) (stops : Stops) (fine : IsWithinLimits plan) where
  -- there is no test case
  pub no-test : (why : Fault) → (why ≡ fault.Memory) ⊎ HasNoTest given name why → (◌≡◌ {A = Result Until Fault} (Err why) (Err fault.Memory)) ⊎ IsAnswerBounded given name bound plan stops (Err why)
  no-test why (inl is) = inl (ap Err is)
  no-test why (inr is) = inr (lacking fine is)

  -- the search gives no answer
  pub no-answer : (test : Test) (e : ExploreError) → IsTestOf given name test → (e ≡ searching.BadPlan → IsWithinLimits plan → ⊥)
      → (e ≡ searching.TooMany → AreTooManyBounded test bound plan stops) → (e ≡ searching.TooMany → stops.at_limit ≡ false)
      → (◌≡◌ {A = Result Until Fault} (Err (explore_fault e)) (Err fault.Memory)) ⊎ IsAnswerBounded given name bound plan stops (Err (explore_fault e))
  no-answer test searching.BadPlan is out many limited = absurd (out refl fine)
  no-answer test searching.TooMany is out many limited = inr (too_many fine is (limited refl) (many refl))
  no-answer test searching.Memory is out many limited = inl refl

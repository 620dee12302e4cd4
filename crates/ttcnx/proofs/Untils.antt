-- Answers of explorations that end where they are to end.
use Rattle.std.proofs.Common.{◌≡◌, ◌≤◌, ℕ, None, false, List, ap, inl, inr, refl, subst, sym, arith}
use Rattle.std.specs.Prelude.{◌⊎◌, Err, Ok, Result, string_bytes}
use Rattle.explore.specs.declared.ending.Ending.TheVariants as ending
use Rattle.explore.specs.declared.ending.Stops.{Stops}
use Rattle.report.specs.declared.report.Report.{Report}
use Rattle.search_layer.specs.Limits.{IsWithinLimits}
use Rattle.search_layer.specs.declared.plan.ExploreError.{ExploreError}
use Rattle.search_layer.specs.declared.plan.ExploreError.TheVariants as searching
use Rattle.search_layer.specs.declared.plan.Plan.{Plan}
use Rattle.semantics.specs.Snapshots.{Test}
use Rattle.ttcnx.proofs.Told.{IsMadeOf, tells}
use Rattle.ttcnx.specs.Answer as answer
use Rattle.ttcnx.specs.Answer.{IsAnswer}
use Rattle.ttcnx.specs.Fault.{explore_fault}
use Rattle.ttcnx.specs.Named.{HasNoTest, IsTestOf, Source}
use Rattle.ttcnx.specs.Sighted.{IsAnswerSighted}
use Rattle.ttcnx.specs.Sighted as sighted
use Rattle.ttcnx.specs.Until.{IsAnswerUntil, IsRefusedUntil, beyond, lacking, reached, too_many, with_steps}
use Rattle.ttcnx.specs.declared.fault.Fault.{Fault}
use Rattle.ttcnx.specs.declared.fault.Fault.TheVariants as fault
use Rattle.ttcnx.specs.declared.until.Sighted.{Sighted}
use Rattle.ttcnx.specs.declared.until.Until.{Until}
use Rattle.ttcnx_runs.proofs.Assembly.{all-steps}
use Rattle.ttcnx_runs.specs.Endings.{AreTooMany, HaveEnded, all_done}
use Rattle.ttcnx_runs.specs.Extents.{IsExtent}
use Rattle.ttcnx_runs.specs.declared.exploration.Extent.{Extent}

-- a plan of fewer steps is within the limits, too
pub within-limits : (plan : Plan) (steps : ℕ) → IsWithinLimits plan → steps ≤ plan.steps → IsWithinLimits (with_steps plan steps)
within-limits plan steps fine low = record {
  steps = let most = fine.steps in omega arith;
  limit_low = fine.limit_low;
  limit_high = fine.limit_high;
  workers_low = fine.workers_low;
  workers_high = fine.workers_high;
  piece_low = fine.piece_low;
  piece_high = fine.piece_high;
}

-- a refusal, as an answer
pub refusal-answers : {A : Type 0} {Refused : Fault → Type 0} (Is : Result A Fault → Type 0) → ((why : Fault) → Refused why → Is (Err why)) → (why : Fault)
    → (why ≡ fault.Memory) ⊎ Refused why → (◌≡◌ {A = Result A Fault} (Err why) (Err fault.Memory)) ⊎ Is (Err why)
refusal-answers Is answers why (inl is) = inl (ap Err is)
refusal-answers Is answers why (inr is) = inr (answers why is)

module _ (given : Source) (name : List ℕ) (plan : Plan) (stops : Stops) (fine : IsWithinLimits plan) where
  -- there is no test case
  pub no-test : (why : Fault) → (why ≡ fault.Memory) ⊎ HasNoTest given name why → (why ≡ fault.Memory) ⊎ IsRefusedUntil given name plan stops why
  no-test why (inl is) = inl is
  no-test why (inr is) = inr (lacking fine is)

  -- the search gives no answer
  pub no-answer : (test : Test) (e : ExploreError) → IsTestOf given name test → (e ≡ searching.BadPlan → IsWithinLimits plan → ⊥)
      → (e ≡ searching.TooMany → AreTooMany test plan stops) → (e ≡ searching.TooMany → stops.at_limit ≡ false)
      → (explore_fault e ≡ fault.Memory) ⊎ IsRefusedUntil given name plan stops (explore_fault e)
  no-answer test searching.BadPlan is out many limited = absurd (out refl fine)
  no-answer test searching.TooMany is out many limited = inr (too_many fine is (limited refl) (many refl))
  no-answer test searching.Memory is out many limited = inl refl

  -- the report on what was found, and why it is of no more steps
  pub until-answers : (test : Test) (extent : Extent) (report : Report) → IsTestOf given name test → IsExtent test plan stops extent → IsMadeOf extent.found report
      → string_bytes report.testcase ≡ name → report.steps ≡ extent.steps → IsAnswerUntil given name plan stops (Ok (record { report = report; ending = extent.ending }))
  until-answers test extent report is of made called same =
      let back : extent.steps ≡ report.steps = sym same in
      let told : IsAnswer given name (with_steps plan extent.steps) (Ok report) =
      answer.named (within-limits plan extent.steps fine of.steps) is (answer.told (tells test name (with_steps plan extent.steps) extent.found report made called same of.found of.within of.complete)) in
      reached fine is (subst (λ (n : ℕ). n ≤ plan.steps) back of.steps)
      (subst (λ (n : ℕ). IsAnswer given name (with_steps plan n) (Ok report)) back told)
      (subst (λ (n : ℕ). HaveEnded test plan stops n extent.ending) back of.ended)

-- ---- without stops, all of the plan's steps are done

module _ (given : Source) (name : List ℕ) (plan : Plan) (stops : Stops) (no_limit : stops.at_limit ≡ false) (no_complete : stops.when_complete ≡ false) (no_mark : stops.at_mark ≡ None) where
  unstopped-report : (until : Until) → IsAnswerUntil given name plan stops (Ok until) → IsAnswer given name plan (Ok until.report)
  unstopped-report until (reached {test = test} fine is low told ended) =
      subst (λ (n : ℕ). IsAnswer given name (with_steps plan n) (Ok until.report)) (all-steps test plan stops until.report.steps until.ending no_limit no_complete no_mark ended) told

  unstopped-refusal : (why : Fault) → IsRefusedUntil given name plan stops why → IsAnswer given name plan (Err why)
  unstopped-refusal why (beyond out) = answer.beyond out
  unstopped-refusal why (lacking fine lacks) = answer.lacking fine lacks
  unstopped-refusal why (too_many fine is limited many) = let more = many plan.steps ending.Steps (all_done refl) in answer.named fine is (answer.too_many more.1 more.2)

  -- the report beside which the least runs stand
  pub sighted-report : (sights : Sighted) → IsAnswerSighted given name plan stops (Ok sights) → IsAnswer given name plan (Ok sights.until.report)
  sighted-report sights (sighted.sighted until is places blocks) = unstopped-report sights.until until

  pub sighted-refusal : (why : Fault) → IsAnswerSighted given name plan stops (Err why) → IsAnswer given name plan (Err why)
  sighted-refusal why (sighted.refused refusal) = unstopped-refusal why refusal

-- Why there is no report whose runs have few expiries.
use Rattle.std.proofs.Common.{◌≡◌, ℕ, Bool, List, ap, inl, inr, refl}
use Rattle.std.specs.Prelude.{◌⊎◌, Contains, Err, Result}
use Rattle.report.specs.declared.report.Outcome.{Outcome}
use Rattle.report.specs.declared.report.Report.{Report}
use Rattle.search_layer.specs.Limits.{IsWithinLimits}
use Rattle.search_layer.specs.declared.plan.ExploreError.{ExploreError}
use Rattle.search_layer.specs.declared.plan.ExploreError.TheVariants as searching
use Rattle.search_layer.specs.declared.plan.Plan.{Plan}
use Rattle.semantics.specs.Snapshots.{Test}
use Rattle.ttcnx.specs.Fault.{explore_fault}
use Rattle.ttcnx.specs.Few.{IsAnswerFew, lacking, too_many}
use Rattle.ttcnx.specs.Named.{HasNoTest, IsTestOf, Source}
use Rattle.ttcnx.specs.declared.fault.Fault.{Fault}
use Rattle.ttcnx.specs.declared.fault.Fault.TheVariants as fault
use Rattle.ttcnx_bounds.specs.Fewest.{IsUndecided}

module _ (given : Source) (name : List ℕ) (patient : Bool) (plan : Plan) (report : Report) (fine : IsWithinLimits plan) where
  -- there is no test case
  pub no-test : (why : Fault) → (why ≡ fault.Memory) ⊎ HasNoTest given name why → (◌≡◌ {A = Result Report Fault} (Err why) (Err fault.Memory)) ⊎ IsAnswerFew given name patient plan report (Err why)
  no-test why (inl is) = inl (ap Err is)
  no-test why (inr is) = inr (lacking fine is)

  -- the search gives no answer
  pub no-answer : (test : Test) (e : ExploreError) → IsTestOf given name test → (e ≡ searching.BadPlan → ⊥)
      → (e ≡ searching.TooMany → (outcome : Outcome) × Contains report.outcomes.items outcome × IsUndecided test patient plan.steps plan.limit outcome.verdict)
      → (◌≡◌ {A = Result Report Fault} (Err (explore_fault e)) (Err fault.Memory)) ⊎ IsAnswerFew given name patient plan report (Err (explore_fault e))
  no-answer test searching.BadPlan is planned many = absurd (planned refl)
  no-answer test searching.TooMany is planned many = let more = many refl in inr (too_many {outcome = more.0} fine is more.1 more.2)
  no-answer test searching.Memory is planned many = inl refl

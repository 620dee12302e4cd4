-- What exploring the runs of a test case that keep a bound answers, as one fact.
use Rattle.std.specs.Prelude.{◌≡◌, ◌↔◌, ℕ, ◌≤◌, false, IfOk, IsErrOf, IsTrue, OnOk, Result}
use Rattle.explore.specs.declared.ending.Stops.{Stops}
use Rattle.laws_bounds.specs.BoundedParts.{IsCompleteBounded}
use Rattle.search_bounds.specs.declared.bound.Bound.{Bound}
use Rattle.search_layer.specs.Limits.{IsWithinLimits}
use Rattle.search_layer.specs.declared.plan.ExploreError.{ExploreError}
use Rattle.search_layer.specs.declared.plan.ExploreError.TheVariants as searching
use Rattle.search_layer.specs.declared.plan.Plan.{Plan}
use Rattle.semantics.specs.Snapshots.{Test}
use Rattle.ttcnx_bounds.specs.BoundedEndings.{AreTooManyBounded, HaveEndedBounded}
use Rattle.ttcnx_bounds.specs.BoundedFound.{AreFoundBounded}
use Rattle.ttcnx_runs.specs.declared.exploration.Extent.{Extent}

pub record IsExploredBounded (test : Test) (bound : Bound) (plan : Plan) (stops : Stops) (result : Result Extent ExploreError) : Type 0 where
  pub bad_plan : IsErrOf result searching.BadPlan ↔ ¬ IsWithinLimits plan
  pub planned : OnOk result (IsWithinLimits plan)
  pub too_many : IsErrOf result searching.TooMany → AreTooManyBounded test bound plan stops
  pub limited : IsErrOf result searching.TooMany → stops.at_limit ≡ false
  pub steps : IfOk result (λ extent. extent.steps ≤ plan.steps)
  pub ended : IfOk result (λ extent. HaveEndedBounded test bound plan stops extent.steps extent.ending)
  pub found : IfOk result (λ extent. AreFoundBounded test bound extent.steps extent.found)
  pub within : IfOk result (λ extent. extent.found.configurations ≤ plan.limit)
  pub complete : IfOk result (λ extent. IsTrue extent.found.complete ↔ IsCompleteBounded test bound extent.steps)
  pub every_bound : IfOk result (λ extent. IsTrue extent.found.complete → (steps : ℕ) → extent.steps ≤ steps → AreFoundBounded test bound steps extent.found)

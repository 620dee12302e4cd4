-- What exploring a test case answers, as one fact.
use Rattle.std.specs.Prelude.{◌≡◌, ◌↔◌, false, IfOk, IsErrOf, OnOk, Result}
use Rattle.explore.specs.declared.ending.Stops.{Stops}
use Rattle.search_layer.specs.Limits.{IsWithinLimits}
use Rattle.search_layer.specs.declared.plan.ExploreError.{ExploreError}
use Rattle.search_layer.specs.declared.plan.ExploreError.TheVariants as searching
use Rattle.search_layer.specs.declared.plan.Plan.{Plan}
use Rattle.ttcnx_runs.specs.Endings.{AreTooMany}
use Rattle.ttcnx_runs.specs.Extents.{IsExtent}
use Rattle.ttcnx_runs.specs.Sights.{AreBlocks, ArePlaces}
use Rattle.ttcnx_runs.specs.declared.sights.Sights.{Sights}
use Rattle.semantics.specs.Snapshots.{Test}

-- an answer is as it is to be, and a refusal has its reason
pub record IsExplored {A : Type 0} (test : Test) (plan : Plan) (stops : Stops) (is : A → Type 0) (result : Result A ExploreError) : Type 0 where
  pub bad_plan : IsErrOf result searching.BadPlan ↔ ¬ IsWithinLimits plan
  pub planned : OnOk result (IsWithinLimits plan)
  pub too_many : IsErrOf result searching.TooMany → AreTooMany test plan stops
  pub limited : IsErrOf result searching.TooMany → stops.at_limit ≡ false
  pub answer : IfOk result is

-- what was found is true of the runs, with the least ones to places and to blocks
pub record AreSights (test : Test) (plan : Plan) (stops : Stops) (sights : Sights) : Type 0 where
  pub extent : IsExtent test plan stops sights.extent
  pub places : ArePlaces test sights.extent.steps sights.places.items
  pub blocks : AreBlocks test sights.extent.steps sights.blocks.items

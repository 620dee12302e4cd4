-- How far the runs of a test case were explored, and what is found of them.
use Rattle.std.specs.Prelude.{◌↔◌, ℕ, ◌≤◌, IsTrue}
use Rattle.explore.specs.declared.ending.Stops.{Stops}
use Rattle.search_layer.specs.declared.plan.Plan.{Plan}
use Rattle.ttcnx_runs.specs.Endings.{HaveEnded}
use Rattle.ttcnx_runs.specs.Found.{AreFound}
use Rattle.ttcnx_runs.specs.declared.exploration.Extent.{Extent}
use Rattle.laws_live.specs.Parts.{IsCompleteByParts}
use Rattle.semantics.specs.Snapshots.{Test}

-- what is found is true of the runs of a bound within the plan's, the least with which the exploration may end
pub record IsExtent (test : Test) (plan : Plan) (stops : Stops) (extent : Extent) : Type 0 where
  pub steps : extent.steps ≤ plan.steps
  pub ended : HaveEnded test plan stops extent.steps extent.ending
  pub found : AreFound test extent.steps extent.found
  pub within : extent.found.configurations ≤ plan.limit
  pub complete : IsTrue extent.found.complete ↔ IsCompleteByParts test extent.steps
  -- where no longer run reaches another configuration, the same is true of the runs of every greater bound
  pub every_bound : IsTrue extent.found.complete → (bound : ℕ) → extent.steps ≤ bound → AreFound test bound extent.found

-- With how many steps an exploration of the runs of a test case may end and why, and that it ended with the fewest.
use Rattle.std.specs.Prelude.{◌≡◌, ℕ, suc, ◌<◌, ◌≤◌, true, Some}
use Rattle.explore.specs.Endings.{rank}
use Rattle.explore.specs.declared.ending.Ending.{Ending}
use Rattle.explore.specs.declared.ending.Ending.TheVariants as ending
use Rattle.explore.specs.declared.ending.Stops.{Stops}
use Rattle.laws_live.specs.Parts.{CountsParts, IsCompleteByParts}
use Rattle.search_layer.specs.declared.plan.Plan.{Plan}
use Rattle.semantics.specs.Runs.{graph_of}
use Rattle.semantics.specs.Snapshots.{Test}
use Rattle.semantics.specs.Steps.{Label}
use Rattle.summary.specs.Exploration.{HasMark}
use Rattle.summary.specs.Run.{Run}

-- the exploration of runs of at most so many steps may end with them, for this reason
pub data MayEnd (test : Test) (plan : Plan) (stops : Stops) (steps : ℕ) : Ending → Type 0 where
  -- the plan's steps are done
  all_done : steps ≡ plan.steps → MayEnd test plan stops steps ending.Steps
  -- with one step more, runs reach more configurations than the limit
  at_limit : {count : ℕ} → stops.at_limit ≡ true → steps < plan.steps → CountsParts test (suc steps) count → plan.limit < count → MayEnd test plan stops steps ending.Limit
  -- no configuration that is first reached with so many steps has an enabled label
  complete : stops.when_complete ≡ true → IsCompleteByParts test steps → MayEnd test plan stops steps ending.Complete
  -- some run of at most so many steps ends with the mark, which is a verdict's number
  at_mark : {mark : ℕ} {run : Run Label} → stops.at_mark ≡ Some mark → HasMark (graph_of test) steps mark run → MayEnd test plan stops steps ending.Mark

-- it ended with the fewest steps with which it may, and tells the first of the reasons for which it may: that a run ends with the
-- mark, that it is complete, that longer runs reach too many configurations, that the plan's steps are done
pub record HaveEnded (test : Test) (plan : Plan) (stops : Stops) (steps : ℕ) (why : Ending) : Type 0 where
  pub may : MayEnd test plan stops steps why
  pub least : (fewer : ℕ) (other : Ending) → fewer < steps → ¬ MayEnd test plan stops fewer other
  pub first : (other : Ending) → MayEnd test plan stops steps other → rank why ≤ rank other

-- with each number of steps with which it may end, runs reach more configurations than the limit
abbrev pub AreTooMany : Test → Plan → Stops → Type 0
AreTooMany test plan stops = (steps : ℕ) (why : Ending) → MayEnd test plan stops steps why → (count : ℕ) × CountsParts test steps count × (plan.limit < count)

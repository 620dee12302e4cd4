-- With how many steps an exploration may end and why, and that it ended with the fewest.
use Rattle.std.specs.Prelude.{◌≡◌, ℕ, suc, ◌<◌, ◌≤◌, true, Some}
use Rattle.explore.specs.declared.ending.Ending.{Ending}
use Rattle.explore.specs.declared.ending.Ending.TheVariants as ending
use Rattle.explore.specs.declared.ending.Stops.{Stops}
use Rattle.search_layer.specs.declared.plan.Plan.{Plan}
use Rattle.summary.specs.Exploration.{Counts, HasMark, IsComplete}
use Rattle.summary.specs.Graph.{Graph}
use Rattle.summary.specs.Run.{Run}

-- the exploration may end with so many steps, for this reason
pub data MayEnd {C L : Type 0} (g : Graph C L) (plan : Plan) (stops : Stops) (steps : ℕ) : Ending → Type 0 where
  -- the plan's steps are done
  all_done : steps ≡ plan.steps → MayEnd g plan stops steps ending.Steps
  -- with one step more, more states than the limit are reached
  at_limit : {count : ℕ} → stops.at_limit ≡ true → steps < plan.steps → Counts g (suc steps) count → plan.limit < count → MayEnd g plan stops steps ending.Limit
  -- no state that is first reached with so many steps has an enabled label
  complete : stops.when_complete ≡ true → IsComplete g steps → MayEnd g plan stops steps ending.Complete
  -- some run of at most so many steps ends with the mark
  at_mark : {mark : ℕ} {run : Run L} → stops.at_mark ≡ Some mark → HasMark g steps mark run → MayEnd g plan stops steps ending.Mark

-- the place of a reason among those that hold for one number of steps: the first of them is told
abbrev pub rank : Ending → ℕ
rank ending.Mark = 0
rank ending.Complete = 1
rank ending.Limit = 2
rank ending.Steps = 3

-- the exploration ended with the fewest steps with which it may, and tells the first of the reasons for which it may
pub record HasEnded {C L : Type 0} (g : Graph C L) (plan : Plan) (stops : Stops) (steps : ℕ) (why : Ending) : Type 0 where
  pub may : MayEnd g plan stops steps why
  pub least : (fewer : ℕ) (other : Ending) → fewer < steps → ¬ MayEnd g plan stops fewer other
  pub first : (other : Ending) → MayEnd g plan stops steps other → rank why ≤ rank other

-- with each number of steps with which it may end, more states than the limit are reached
abbrev pub AreTooMany : {C L : Type 0} → Graph C L → Plan → Stops → Type 0
AreTooMany g plan stops = (steps : ℕ) (why : Ending) → MayEnd g plan stops steps why → (count : ℕ) × Counts g steps count × (plan.limit < count)

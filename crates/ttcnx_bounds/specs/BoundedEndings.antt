-- With how many steps an exploration of the runs of a test case that keep a bound may end and why, and that it ended with the
-- fewest.
use Rattle.std.specs.Prelude.{◌≡◌, ℕ, suc, ◌<◌, ◌≤◌, true, Some}
use Rattle.explore.specs.Endings.{rank}
use Rattle.explore.specs.declared.ending.Ending.{Ending}
use Rattle.explore.specs.declared.ending.Ending.TheVariants as ending
use Rattle.explore.specs.declared.ending.Stops.{Stops}
use Rattle.laws_bounds.specs.BoundedParts.{CountsBounded, HasMarkBounded, IsCompleteBounded}
use Rattle.search_bounds.specs.declared.bound.Bound.{Bound}
use Rattle.search_layer.specs.declared.plan.Plan.{Plan}
use Rattle.semantics.specs.Snapshots.{Test}
use Rattle.semantics.specs.Steps.{Label}
use Rattle.summary.specs.Run.{Run}

-- the exploration of these runs of at most so many steps may end with them, for this reason
pub data MayEndBounded (test : Test) (bound : Bound) (plan : Plan) (stops : Stops) (steps : ℕ) : Ending → Type 0 where
  -- the plan's steps are done
  all_done : steps ≡ plan.steps → MayEndBounded test bound plan stops steps ending.Steps
  -- with one step more, these runs reach more pairs than the limit
  at_limit : {count : ℕ} → stops.at_limit ≡ true → steps < plan.steps → CountsBounded test bound (suc steps) count → plan.limit < count → MayEndBounded test bound plan stops steps ending.Limit
  -- no pair that these runs first reach with so many steps leads on within the bound
  complete : stops.when_complete ≡ true → IsCompleteBounded test bound steps → MayEndBounded test bound plan stops steps ending.Complete
  -- one of these runs ends with the mark, which is a verdict's number
  at_mark : {mark : ℕ} {run : Run Label} → stops.at_mark ≡ Some mark → HasMarkBounded test bound steps mark run → MayEndBounded test bound plan stops steps ending.Mark

-- it ended with the fewest steps with which it may, and tells the first of the reasons for which it may
pub record HaveEndedBounded (test : Test) (bound : Bound) (plan : Plan) (stops : Stops) (steps : ℕ) (why : Ending) : Type 0 where
  pub may : MayEndBounded test bound plan stops steps why
  pub least : (fewer : ℕ) (other : Ending) → fewer < steps → ¬ MayEndBounded test bound plan stops fewer other
  pub first : (other : Ending) → MayEndBounded test bound plan stops steps other → rank why ≤ rank other

-- with each number of steps with which it may end, these runs reach more pairs than the limit
abbrev pub AreTooManyBounded : Test → Bound → Plan → Stops → Type 0
AreTooManyBounded test bound plan stops = (steps : ℕ) (why : Ending) → MayEndBounded test bound plan stops steps why → (count : ℕ) × CountsBounded test bound steps count × (plan.limit < count)

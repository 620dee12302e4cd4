-- What is answered where the runs of a test case that keep a bound on expiries of timers are explored, unless an allocation fails.
use Rattle.std.specs.Prelude.{◌≡◌, ◌≤◌, ◌↔◌, ◌||◌, ℕ, false, List, Option, None, Some, Result, Ok, Err, IsTrue, if◌then◌else◌, is_some, string_bytes}
use Rattle.std.specs.declared.alloc.Global.{Global}
use Rattle.std.specs.declared.vec.Vec.{Vec}
use Rattle.explore.specs.declared.ending.Stops.{Stops}
use Rattle.laws_bounds.specs.BoundedParts.{CountsBounded, IsCompleteBounded}
use Rattle.report.specs.declared.report.Report.{Report}
use Rattle.search_bounds.specs.declared.bound.Bound.{Bound}
use Rattle.search_layer.specs.Limits.{IsWithinLimits}
use Rattle.search_layer.specs.declared.plan.Plan.{Plan}
use Rattle.semantics.specs.Snapshots.{Test}
use Rattle.step_labels.specs.declared.label.Label.{Label}
use Rattle.ttcn_syntax.specs.declared.tree.statement.Verdict.{Verdict}
use Rattle.ttcnx.specs.Named.{HasNoTest, IsTestOf, Source}
use Rattle.ttcnx.specs.Tells.{labels_in, outcomes_of}
use Rattle.ttcnx.specs.Until.{SameUntil}
use Rattle.ttcnx.specs.declared.fault.Fault.{Fault}
use Rattle.ttcnx.specs.declared.fault.Fault.TheVariants as fault
use Rattle.ttcnx.specs.declared.until.Until.{Until}
use Rattle.ttcnx_command_line.specs.declared.command.Wishes.{Wishes}
use Rattle.ttcnx_bounds.specs.BoundedEndings.{AreTooManyBounded, HaveEndedBounded}
use Rattle.ttcnx_bounds.specs.BoundedFound.{AreBlockedBounded, AreBranchesBounded, IsBestRunBounded}

-- the bound on expiries that is wished, where there is one
abbrev pub bound_of : Wishes → Option Bound
bound_of wishes = if is_some wishes.expiries || wishes.patient_timers
    then Some (record { expiries = wishes.expiries; patient = wishes.patient_timers })
    else None

-- the report is true of the runs of at most n steps that keep the bound: how many different pairs of a live part and of how many
-- timers may still expire they reach, for each verdict that one of them ends with the least of the shortest such runs, the
-- branches that are taken, and the components that are blocked
pub record TellsOfBoundedRuns (test : Test) (bound : Bound) (n : ℕ) (report : Report) : Type 0 where
  pub configurations : CountsBounded test bound n report.configurations
  pub run_of : Verdict → Option (Vec Label Global)
  pub best : (verdict : Verdict) → IsBestRunBounded test bound n verdict (labels_in (run_of verdict))
  pub outcomes : report.outcomes.items ≡ outcomes_of run_of
  pub branches : AreBranchesBounded test bound n report.branches.items
  pub blocked : AreBlockedBounded test bound n report.blocked.items

-- the report has the test case's name, is true of the runs of at most its steps that keep the bound, and says whether longer ones
-- reach no other pair
pub record TellsBounded (test : Test) (name : List ℕ) (bound : Bound) (plan : Plan) (report : Report) : Type 0 where
  pub testcase : string_bytes report.testcase ≡ name
  pub steps : report.steps ≤ plan.steps
  pub within : report.configurations ≤ plan.limit
  pub runs : TellsOfBoundedRuns test bound report.steps report
  pub complete : IsTrue report.complete ↔ IsCompleteBounded test bound report.steps

-- what is answered
pub data IsAnswerBounded (given : Source) (name : List ℕ) (bound : Bound) (plan : Plan) (stops : Stops) : Result Until Fault → Type 0 where
  -- the plan is beyond its limits
  beyond : (IsWithinLimits plan → ⊥) → IsAnswerBounded given name bound plan stops (Err fault.BadPlan)
  -- the plan is within its limits, and there is no test case of the name with the script: why
  lacking : {why : Fault} → IsWithinLimits plan → HasNoTest given name why → IsAnswerBounded given name bound plan stops (Err why)
  -- there is one, the exploration is not to end at the limit, and wherever it may end the runs that keep the bound reach more pairs
  -- than that
  too_many : {test : Test} → IsWithinLimits plan → IsTestOf given name test → stops.at_limit ≡ false → AreTooManyBounded test bound plan stops
      → IsAnswerBounded given name bound plan stops (Err fault.TooMany)
  -- there is one: the report on those of its runs that keep the bound, of the fewest steps with which the exploration may end
  told : {until : Until} {test : Test} → IsWithinLimits plan → IsTestOf given name test → TellsBounded test name bound plan until.report
      → HaveEndedBounded test bound plan stops until.report.steps until.ending → IsAnswerBounded given name bound plan stops (Ok until)

-- a module, a script, a name, a bound, a plan and stops have one answer at most
abbrev pub HasOneAnswerBounded : Source → List ℕ → Bound → Plan → Stops → Type 0
HasOneAnswerBounded given name bound plan stops = (answer other : Result Until Fault) → IsAnswerBounded given name bound plan stops answer → IsAnswerBounded given name bound plan stops other
    → SameUntil answer other

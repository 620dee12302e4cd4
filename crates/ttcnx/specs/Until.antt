-- What is answered where the runs of a test case are explored until a stop, unless an allocation fails.
use Rattle.std.specs.Prelude.{◌≡◌, ◌≤◌, ℕ, false, List, Result, Ok, Err}
use Rattle.std.specs.Option.{option_map}
use Rattle.explore.specs.declared.ending.Stops.{Stops}
use Rattle.search_layer.specs.Limits.{IsWithinLimits}
use Rattle.search_layer.specs.declared.plan.Plan.{Plan}
use Rattle.semantics.specs.Configurations.{badness}
use Rattle.semantics.specs.Snapshots.{Test}
use Rattle.ttcnx.specs.Answer.{IsAnswer, SameAnswer}
use Rattle.ttcnx.specs.Fault.{SameFault}
use Rattle.ttcnx.specs.Named.{HasNoTest, IsTestOf, Source}
use Rattle.ttcnx.specs.declared.fault.Fault.{Fault}
use Rattle.ttcnx.specs.declared.fault.Fault.TheVariants as fault
use Rattle.ttcnx.specs.declared.until.Until.{Until}
use Rattle.ttcnx_command_line.specs.declared.command.Wishes.{Wishes}
use Rattle.ttcnx_runs.specs.Endings.{AreTooMany, HaveEnded}

-- where an exploration ends by what is wished: at the limit, where the report is complete, where some run ends with the verdict
abbrev pub stops_of : Wishes → Stops
stops_of wishes = record { at_limit = wishes.partial; when_complete = wishes.until_complete; at_mark = option_map badness wishes.first }

-- the plan, but for its steps
abbrev pub with_steps : Plan → ℕ → Plan
with_steps plan steps = record plan { steps = steps }

-- why nothing is told of the runs
pub data IsRefusedUntil (given : Source) (name : List ℕ) (plan : Plan) (stops : Stops) : Fault → Type 0 where
  -- the plan is beyond its limits
  beyond : (IsWithinLimits plan → ⊥) → IsRefusedUntil given name plan stops fault.BadPlan
  -- the plan is within its limits, and there is no test case of the name with the script: why
  lacking : {why : Fault} → IsWithinLimits plan → HasNoTest given name why → IsRefusedUntil given name plan stops why
  -- there is one, the exploration is not to end at the limit, and wherever it may end its runs reach more configurations than that
  too_many : {test : Test} → IsWithinLimits plan → IsTestOf given name test → stops.at_limit ≡ false → AreTooMany test plan stops → IsRefusedUntil given name plan stops fault.TooMany

-- what is answered
pub data IsAnswerUntil (given : Source) (name : List ℕ) (plan : Plan) (stops : Stops) : Result Until Fault → Type 0 where
  -- there is no report: why
  refused : {why : Fault} → IsRefusedUntil given name plan stops why → IsAnswerUntil given name plan stops (Err why)
  -- the report of a bound within the plan's, which is the answer for this bound: the least with which the exploration may end
  reached : {until : Until} {test : Test} → IsWithinLimits plan → IsTestOf given name test → until.report.steps ≤ plan.steps
      → IsAnswer given name (with_steps plan until.report.steps) (Ok until.report)
      → HaveEnded test plan stops until.report.steps until.ending → IsAnswerUntil given name plan stops (Ok until)

-- answers that tell the same: reports of one text, as text and as JSON, that go no further for one reason, or faults of one kind
abbrev pub SameUntil : Result Until Fault → Result Until Fault → Type 0
SameUntil (Ok until) (Ok other) = SameAnswer (Ok until.report) (Ok other.report) × (until.ending ≡ other.ending)
SameUntil (Ok until) (Err other) = ⊥
SameUntil (Err one) (Ok other) = ⊥
SameUntil (Err one) (Err other) = SameFault one other

-- a module, a script, a name, a plan and stops have one answer at most
abbrev pub HasOneAnswerUntil : Source → List ℕ → Plan → Stops → Type 0
HasOneAnswerUntil given name plan stops = (answer other : Result Until Fault) → IsAnswerUntil given name plan stops answer → IsAnswerUntil given name plan stops other
    → SameUntil answer other

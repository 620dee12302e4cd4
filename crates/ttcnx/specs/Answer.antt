-- What is answered for a module, a script, the name of a test case and a plan, unless an allocation fails. Stage by stage: the
-- plan, the module's text, the script, the test case.
use Rattle.std.specs.Prelude.{◌≡◌, ℕ, ◌<◌, List, Result, Ok, Err}
use Rattle.search_layer.specs.Limits.{IsWithinLimits}
use Rattle.search_layer.specs.declared.plan.Plan.{Plan}
use Rattle.laws_live.specs.Parts.{CountsParts}
use Rattle.report.specs.Json.{json_text}
use Rattle.report.specs.Texts.{report_text}
use Rattle.report.specs.declared.report.Report.{Report}
use Rattle.semantics.specs.Snapshots.{Test}
use Rattle.ttcnx.specs.Fault.{SameFault}
use Rattle.ttcnx.specs.Named.{HasNoTest, IsTestOf, Source}
use Rattle.ttcnx.specs.Tells.{Tells}
use Rattle.ttcnx.specs.declared.fault.Fault.{Fault}
use Rattle.ttcnx.specs.declared.fault.Fault.TheVariants as fault

-- an answer: a report, or a fault that says why there is none
abbrev pub Answer : Type 0
Answer = Result Report Fault

-- what is answered for a test case
pub data OfTestCase (test : Test) (name : List ℕ) (plan : Plan) : Answer → Type 0 where
  -- the test case's runs reach more configurations than the limit
  too_many : {count : ℕ} → CountsParts test plan.steps count → plan.limit < count
      → OfTestCase test name plan (Err fault.TooMany)
  -- the runs reach no more configurations than the limit: the report on them
  told : {report : Report} → Tells test name plan report → OfTestCase test name plan (Ok report)

-- what is answered
pub data IsAnswer (given : Source) (name : List ℕ) (plan : Plan) : Answer → Type 0 where
  -- the plan is beyond its limits
  beyond : (IsWithinLimits plan → ⊥) → IsAnswer given name plan (Err fault.BadPlan)
  -- the plan is within its limits, and there is no test case of the name with the script: why
  lacking : {why : Fault} → IsWithinLimits plan → HasNoTest given name why → IsAnswer given name plan (Err why)
  -- the plan is within its limits, and there is one: the answer for it
  named : {test : Test} {answer : Answer} → IsWithinLimits plan → IsTestOf given name test → OfTestCase test name plan answer
      → IsAnswer given name plan answer

-- answers that tell the same: reports of one text, as text and as JSON, or faults of one kind
abbrev pub SameAnswer : Answer → Answer → Type 0
SameAnswer (Ok report) (Ok other) = (report_text report ≡ report_text other) × (json_text report ≡ json_text other)
SameAnswer (Ok report) (Err other) = ⊥
SameAnswer (Err one) (Ok other) = ⊥
SameAnswer (Err one) (Err other) = SameFault one other

-- a module, a script, a name and a plan have one answer at most
abbrev pub HasOneAnswer : Source → List ℕ → Plan → Type 0
HasOneAnswer given name plan = (answer other : Answer) → IsAnswer given name plan answer → IsAnswer given name plan other
    → SameAnswer answer other

-- A report whose runs to verdicts have the fewest expiries of timers.
use Rattle.std.specs.Prelude.{◌≡◌, ◌⊎◌, ℕ, Bool, Contains, List, None, Result, Ok, Err}
use Rattle.std.specs.List.{AllZip}
use Rattle.report.specs.declared.report.Outcome.{Outcome}
use Rattle.report.specs.declared.report.Report.{Report}
use Rattle.search_layer.specs.Limits.{IsWithinLimits}
use Rattle.search_layer.specs.declared.plan.Plan.{Plan}
use Rattle.semantics.specs.Snapshots.{Test}
use Rattle.ttcnx.specs.Answer.{Answer, SameAnswer}
use Rattle.ttcnx.specs.Named.{HasNoTest, IsTestOf, Source}
use Rattle.ttcnx.specs.declared.fault.Fault.{Fault}
use Rattle.ttcnx.specs.declared.fault.Fault.TheVariants as fault
use Rattle.ttcnx_bounds.specs.BoundedFound.{IsBestRunBounded}
use Rattle.ttcnx_bounds.specs.Fewest.{HasFewest, IsUndecided, any_number}

-- what is told in the place of an outcome: its verdict, with a run that has the fewest expiries; where no run of at most n steps
-- ends with it, the outcome as it was
pub data IsFewestOutcome (test : Test) (patient : Bool) (n : ℕ) (outcome told : Outcome) : Type 0 where
  fewest : {expiries : ℕ} → told.verdict ≡ outcome.verdict → HasFewest test patient n outcome.verdict expiries told.run.items → IsFewestOutcome test patient n outcome told
  as_it_was : IsBestRunBounded test (any_number patient) n outcome.verdict None → told ≡ outcome → IsFewestOutcome test patient n outcome told

-- one report is another one but for its runs, which have the fewest expiries
pub record HasFewExpiries (test : Test) (patient : Bool) (n : ℕ) (report told : Report) : Type 0 where
  pub others : told ≡ record report { outcomes = told.outcomes }
  pub outcomes : AllZip (IsFewestOutcome test patient n) report.outcomes.items told.outcomes.items

-- what is answered
pub data IsAnswerFew (given : Source) (name : List ℕ) (patient : Bool) (plan : Plan) (report : Report) : Result Report Fault → Type 0 where
  -- the plan is beyond its limits
  beyond : (IsWithinLimits plan → ⊥) → IsAnswerFew given name patient plan report (Err fault.BadPlan)
  -- the plan is within its limits, and there is no test case of the name with the script: why
  lacking : {why : Fault} → IsWithinLimits plan → HasNoTest given name why → IsAnswerFew given name patient plan report (Err why)
  -- there is one, and of one of the verdicts it isn't told how many expiries a run to it needs, since too many pairs are reached
  too_many : {test : Test} {outcome : Outcome} → IsWithinLimits plan → IsTestOf given name test → Contains report.outcomes.items outcome
      → IsUndecided test patient plan.steps plan.limit outcome.verdict → IsAnswerFew given name patient plan report (Err fault.TooMany)
  -- there is one: the report with these runs
  told : {test : Test} {told : Report} → IsWithinLimits plan → IsTestOf given name test → HasFewExpiries test patient plan.steps report told → IsAnswerFew given name patient plan report (Ok told)

-- a module, a script, a name, a plan and a report have one answer at most, unless it is that too many pairs are reached: that may be
-- told where a report could be
abbrev pub HasOneAnswerFew : Source → List ℕ → Bool → Plan → Report → Type 0
HasOneAnswerFew given name patient plan report = (answer other : Answer) → IsAnswerFew given name patient plan report answer → IsAnswerFew given name patient plan report other
    → (answer ≡ Err fault.TooMany) ⊎ ((other ≡ Err fault.TooMany) ⊎ SameAnswer answer other)

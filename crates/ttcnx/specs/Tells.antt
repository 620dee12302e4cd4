-- What a report says about the runs of a test case (ES 201 873-4).
use Rattle.std.specs.Prelude.{◌≡◌, ◌≤◌, ◌↔◌, ℕ, List, [], ◌∷◌, Contains, Option, None, Some, IsTrue, map, string_bytes}
use Rattle.std.specs.List.{filter_map}
use Rattle.std.specs.Option.{option_map}
use Rattle.std.specs.declared.alloc.Global.{Global}
use Rattle.std.specs.declared.vec.Vec.{Vec}
use Rattle.ttcn_syntax.specs.declared.tree.statement.Verdict.{Verdict}
use Rattle.ttcn_syntax.specs.declared.tree.statement.Verdict.TheVariants as verdict
use Rattle.semantics.specs.Snapshots.{Test}
use Rattle.step_labels.specs.declared.label.Label.{Label}
use Rattle.laws_live.specs.Parts.{CountsParts, IsCompleteByParts}
use Rattle.search_layer.specs.declared.plan.Plan.{Plan}
use Rattle.ttcnx_runs.specs.Found.{AreBlocked, AreBranches, IsBestRun}
use Rattle.report.specs.declared.report.Outcome.{Outcome}
use Rattle.report.specs.declared.report.Report.{Report}

-- all verdicts, from the best on
abbrev pub all_verdicts : List Verdict
all_verdicts = verdict.None ∷ verdict.Pass ∷ verdict.Inconc ∷ verdict.Fail ∷ verdict.Error ∷ []

-- a verdict with its run, if it has one
abbrev pub outcome_of : Verdict → Option (Vec Label Global) → Option Outcome
outcome_of verdict None = None
outcome_of verdict (Some run) = Some (record { verdict = verdict; run = run })

-- the verdicts that have a run, from the best on
abbrev pub outcomes_of : (Verdict → Option (Vec Label Global)) → List Outcome
outcomes_of run_of = filter_map (λ verdict. outcome_of verdict (run_of verdict)) all_verdicts

-- the labels of a run, if there is one
abbrev pub labels_in : Option (Vec Label Global) → Option (List Label)
labels_in run = option_map (λ run. run.items) run

-- the report is true of the runs of at most n steps: how many configurations with different live parts they reach, for each
-- verdict that a run ends with the least of the shortest such runs, the branches that are taken, and the components that are
-- blocked
pub record TellsOfRuns (test : Test) (n : ℕ) (report : Report) : Type 0 where
  pub configurations : CountsParts test n report.configurations
  pub run_of : Verdict → Option (Vec Label Global)
  pub best : (verdict : Verdict) → IsBestRun test n verdict (labels_in (run_of verdict))
  pub outcomes : report.outcomes.items ≡ outcomes_of run_of
  pub branches : AreBranches test n report.branches.items
  pub blocked : AreBlocked test n report.blocked.items

-- the report lists a verdict
abbrev pub Lists : Report → Verdict → Type 0
Lists report v = Contains (map (λ outcome. outcome.verdict) report.outcomes.items) v

-- the report has the test case's name and the plan's steps, is true of the runs of at most so many steps, and says whether
-- longer runs reach no other configuration
pub record Tells (test : Test) (name : List ℕ) (plan : Plan) (report : Report) : Type 0 where
  pub testcase : string_bytes report.testcase ≡ name
  pub steps : report.steps ≡ plan.steps
  pub within : report.configurations ≤ plan.limit
  pub runs : TellsOfRuns test plan.steps report
  pub complete : IsTrue report.complete ↔ IsCompleteByParts test plan.steps

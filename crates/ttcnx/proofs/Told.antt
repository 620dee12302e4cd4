-- What a report tells, from what was found.
use Rattle.std.proofs.Common.{◌≡◌, ◌≤◌, ℕ, Bool, List, sym, subst, ◌∙◌}
use Rattle.std.specs.Prelude.{◌↔◌, IsTrue, string_bytes}
use Rattle.std.specs.List.{filter_map, zip}
use Rattle.search_layer.specs.declared.plan.Plan.{Plan}
use Rattle.ttcnx_runs.specs.Found.{AreBlocked, AreBranches, AreFound}
use Rattle.ttcnx_runs.specs.declared.exploration.Exploration.{Exploration}
use Rattle.laws_live.specs.Parts.{CountsParts, IsCompleteByParts}
use Rattle.report.specs.declared.report.Report.{Report}
use Rattle.semantics.specs.Snapshots.{Test}
use Rattle.step_labels.specs.declared.standing.Standing.{Standing}
use Rattle.ttcn_syntax.specs.declared.place.Span.{Span}
use Rattle.ttcnx.proofs.Outcomes.{kept, outcomes_of-kept}
use Rattle.ttcnx.specs.Tells.{Tells, TellsOfRuns, all_verdicts, outcome_of}

-- a report is made of what was found
pub record IsMadeOf (found : Exploration) (report : Report) : Type 0 where
  pub configurations : report.configurations ≡ found.configurations
  pub complete : report.complete ≡ found.complete
  pub outcomes : report.outcomes.items ≡ filter_map (λ pair. outcome_of pair.0 pair.1) (zip all_verdicts found.best.items)
  pub branches : report.branches.items ≡ found.branches.items
  pub blocked : report.blocked.items ≡ found.blocked.items

pub tells-of-runs : (test : Test) (n : ℕ) (found : Exploration) (report : Report) → IsMadeOf found report → AreFound test n found → TellsOfRuns test n report
tells-of-runs test n found report made are = record {
  configurations = subst (λ (count : ℕ). CountsParts test n count) (sym made.configurations) are.configurations;
  run_of = kept found.best.items;
  best = are.best;
  outcomes = made.outcomes ∙ outcomes_of-kept found.best.items are.eight;
  branches = subst (λ (places : List Span). AreBranches test n places) (sym made.branches) are.branches;
  blocked = subst (λ (standings : List Standing). AreBlocked test n standings) (sym made.blocked) are.blocked;
}

pub tells : (test : Test) (name : List ℕ) (plan : Plan) (found : Exploration) (report : Report) → IsMadeOf found report
    → string_bytes report.testcase ≡ name → report.steps ≡ plan.steps → AreFound test plan.steps found → found.configurations ≤ plan.limit
    → (IsTrue found.complete ↔ IsCompleteByParts test plan.steps) → Tells test name plan report
tells test name plan found report made testcase steps are within complete = record {
  testcase = testcase;
  steps = steps;
  within = subst (λ (count : ℕ). count ≤ plan.limit) (sym made.configurations) within;
  runs = tells-of-runs test plan.steps found report made are;
  complete = subst (λ (b : Bool). IsTrue b ↔ IsCompleteByParts test plan.steps) (sym made.complete) complete;
}

-- where a report is complete, so is what was found
pub complete-found : (found : Exploration) (report : Report) → IsMadeOf found report → IsTrue report.complete → IsTrue found.complete
complete-found found report made is = subst (λ (b : Bool). IsTrue b) made.complete is

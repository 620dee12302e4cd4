-- Runs in which each value is of the type of its name, nothing is met that no checked module has, and only a dynamic error ends with verdict `error`.
use Rattle.std.specs.Prelude.{◌≡◌, false, List, Some, Ok, IfSome}
use Rattle.std.specs.List.{All}
use Rattle.ttcn_syntax.specs.declared.tree.statement.Verdict.{Verdict}
use Rattle.check_scope.specs.Names.{kind_at}
use Rattle.check_rules.specs.Statements.{is_error}
use Rattle.laws_evaluation.specs.Uses.{GivesOnly}
use Rattle.semantics.specs.Configurations.{Configuration, Ended, Goes}
use Rattle.semantics.specs.Runs.{replay, started, testcase_body}
use Rattle.semantics.specs.Snapshots.{Test}
use Rattle.semantics.specs.Steps.{Label, step}
use Rattle.value_types.specs.Outcomes.{Yields, or_unmet, outcome_and_then}
use Rattle.laws_types.specs.Typed.{FitsTypes}

-- no component has verdict `error`, and none has had it: a test case that goes on doesn't end with it unless a step fails
abbrev pub HasNoError : Configuration → Type 0
HasNoError (Ended v) = Unit {0}
HasNoError (Goes c) = (is_error c.forgotten ≡ false) × All (λ component. is_error component.verdict ≡ false) c.components

-- the start and each step of every run of a test case, however long, lead to a configuration whose values are of their types, or are a dynamic error
pub record StaysWellTyped (test : Test) : Type 0 where
  -- the start leads to values of the types of their names, or is a dynamic error
  pub begins : GivesOnly (outcome_and_then (started test) (or_unmet (testcase_body (kind_at test.definitions test.testcase)))) (FitsTypes test)
  -- where a run leads all values are of the types of their names
  pub leads : (run : List Label) (c : Configuration) → replay test run ≡ Ok c → FitsTypes test c
  -- the next step leads to values of the types of their names, or is a dynamic error: nothing is met that no checked module has
  pub goes_on : (run : List Label) (c : Configuration) (label : Label) → replay test run ≡ Ok c → IfSome (step test c label) (λ out. GivesOnly out (FitsTypes test))
  -- only a step that fails ends with verdict `error`
  pub ends : (run : List Label) (c : Configuration) (label : Label) (v : Verdict) → replay test run ≡ Ok c → step test c label ≡ Some (Yields (Ended v)) → is_error v ≡ false

-- Runs keep all values of their types.
use Rattle.std.proofs.Common.{◌≡◌, ℕ, ◌+◌, true, List, [], ◌∷◌, Option, Some, None, Result, Ok, Err, IfSome, is_some, false, refl, subst}
use Rattle.ttcn_syntax.specs.declared.tree.statement.Verdict.{Verdict}
use Rattle.check_scope.specs.Names.{kind_at}
use Rattle.check_rules.specs.Statements.{is_error}
use Rattle.laws_evaluation.specs.Uses.{GivesOnly}
use Rattle.laws_references.proofs.Runs.{ReachedStands, next-both, start-both}
use Rattle.laws_repeat.proofs.Repeats.{next_marked, start_marked}
use Rattle.laws_repeat.specs.Marks.{StandsMarked}
use Rattle.laws_sites.proofs.Runs.{next_stands, start_stands}
use Rattle.laws_sites.specs.Standing.{StandsByRules}
use Rattle.laws_order.proofs.Runs.{next_ordered, start_ordered}
use Rattle.laws_steps.proofs.Found.{some-of}
use Rattle.laws_order.specs.Order.{StandsInOrder}
use Rattle.semantics.specs.Configurations.{Configuration, Ended}
use Rattle.semantics.specs.Runs.{graph_of, option_elim, replay, replay_from, start, started, testcase_body}
use Rattle.semantics.specs.Snapshots.{Test}
use Rattle.semantics.specs.Steps.{Label, next, settled, step}
use Rattle.summary.specs.Run.{Run, Start, Then, end_of}
use Rattle.check_rules.specs.Rules.{AreWellTyped}
use Rattle.value_types.specs.Outcomes.{Fails, Outcome, Yields, or_unmet, outcome_and_then}
use Rattle.step_script.specs.Fitting.{FitsScript}
use Rattle.laws_types.proofs.Scripts.{script-none}
use Rattle.laws_types.proofs.Starting.{start_fits}
use Rattle.laws_types.proofs.Steps.{next-fits, step-fits}
use Rattle.laws_types.proofs.Verdicts.{ends-quietly, next-none, start-none}
use Rattle.laws_types.specs.Runs.{HasNoError, StaysWellTyped}
use Rattle.laws_types.specs.Typed.{FitsTypes}

settled-fits : (test : Test) (o : Outcome Configuration) → GivesOnly o (FitsTypes test) → FitsTypes test (settled o)
settled-fits test (Yields c) is = is
settled-fits test (Fails why) is = tt

pub first_fits : (test : Test) → AreWellTyped test.definitions → is_some (testcase_body (kind_at test.definitions test.testcase)) ≡ true → FitsTypes test (start test)
first_fits test well there = settled-fits test (outcome_and_then (started test) (or_unmet (testcase_body (kind_at test.definitions test.testcase)))) (start_fits test well there)

-- what is known of configurations of runs
abbrev Stands : Test → Configuration → Type 0
Stands test c = StandsByRules test c × StandsInOrder c × ReachedStands test c × StandsMarked test c × HasNoError c × FitsTypes test c

start-all : (test : Test) → AreWellTyped test.definitions → is_some (testcase_body (kind_at test.definitions test.testcase)) ≡ true → Stands test (start test)
start-all test well there = (start_stands test well, start_ordered test, start-both test, start_marked test well, start-none test well, first_fits test well there)

next-all : (test : Test) → AreWellTyped test.definitions → FitsScript test → (c d : Configuration) (label : Label) → Stands test c → next test c label ≡ Some d → Stands test d
next-all test well script c d label (rules, order, reached, marked, quiet, fits) e = (
  next_stands test c d label well rules e,
  next_ordered test c d label order e,
  some-of (ReachedStands test) (next test c label) d e (next-both test c label (next test c label) (script-none test well script) refl reached),
  next_marked test well c d label marked e,
  next-none test well c d label rules quiet e,
  next-fits test c d label well script rules order reached.1 marked fits e,
)

met-at : (test : Test) → AreWellTyped test.definitions → FitsScript test → (c : Configuration) (label : Label) → Stands test c → IfSome (step test c label) (λ out. GivesOnly out (FitsTypes test))
met-at test well script c label (rules, order, reached, marked, quiet, fits) = step-fits test c label well script rules order reached.1 marked fits

-- ---- labels one after the other

abbrev Holds : Test → Result Configuration ℕ → Type 0
Holds test (Ok c) = Stands test c
Holds test (Err number) = Unit {0}

goes-on : (test : Test) (number : ℕ) (more : Configuration → Result Configuration ℕ) (o : Option Configuration) → ((d : Configuration) → o ≡ Some d → Holds test (more d)) → Holds test (option_elim (Err number) more o)
goes-on test number more None fits = tt
goes-on test number more (Some d) fits = fits d refl

replays : (test : Test) → AreWellTyped test.definitions → FitsScript test → (run : List Label) (number : ℕ) (c : Configuration) → Stands test c → Holds test (replay_from test run number c)
replays test well script [] number c is = is
replays test well script (label ∷ run) number c is =
    goes-on test number (replay_from test run (number + 1)) (next test c label)
    (λ d e. replays test well script run (number + 1) d (next-all test well script c d label is e))

replayed : (test : Test) (run : List Label) (c : Configuration) → AreWellTyped test.definitions → is_some (testcase_body (kind_at test.definitions test.testcase)) ≡ true → FitsScript test → replay test run ≡ Ok c
    → Stands test c
replayed test run c well there script e = subst (Holds test) e (replays test well script run 1 (start test) (start-all test well there))

pub replay_fits : (test : Test) (run : List Label) (c : Configuration) → AreWellTyped test.definitions → is_some (testcase_body (kind_at test.definitions test.testcase)) ≡ true → FitsScript test
    → replay test run ≡ Ok c → FitsTypes test c
replay_fits test run c well there script e = (replayed test run c well there script e).5

-- the step behind them
pub replay_meets : (test : Test) (run : List Label) (c : Configuration) (label : Label) → AreWellTyped test.definitions → is_some (testcase_body (kind_at test.definitions test.testcase)) ≡ true → FitsScript test
    → replay test run ≡ Ok c → IfSome (step test c label) (λ out. GivesOnly out (FitsTypes test))
replay_meets test run c label well there script e = met-at test well script c label (replayed test run c well there script e)

-- it ends with `error` only where it fails
replay-ends : (test : Test) (run : List Label) (c : Configuration) (label : Label) (v : Verdict) → AreWellTyped test.definitions → is_some (testcase_body (kind_at test.definitions test.testcase)) ≡ true → FitsScript test
    → replay test run ≡ Ok c → step test c label ≡ Some (Yields (Ended v)) → is_error v ≡ false
replay-ends test run c label v well there script e is =
    let all : Stands test c = replayed test run c well there script e in
    ends-quietly test well c label v all.0 all.4 is

-- ---- runs of the graph

after-all : (test : Test) (c : Configuration) (o : Option Configuration) → Stands test c → ((d : Configuration) → o ≡ Some d → Stands test d) → Stands test (option_elim c (λ d. d) o)
after-all test c None is behind = is
after-all test c (Some d) is behind = behind d refl

ends : (test : Test) → AreWellTyped test.definitions → is_some (testcase_body (kind_at test.definitions test.testcase)) ≡ true → FitsScript test → (run : Run Label) → Stands test (end_of (graph_of test) run)
ends test well there script Start = start-all test well there
ends test well there script (Then run label) =
    let before : Stands test (end_of (graph_of test) run) = ends test well there script run in
    after-all test (end_of (graph_of test) run) (next test (end_of (graph_of test) run) label) before (λ d e. next-all test well script (end_of (graph_of test) run) d label before e)

pub ends-fit : (test : Test) (run : Run Label) → AreWellTyped test.definitions → is_some (testcase_body (kind_at test.definitions test.testcase)) ≡ true → FitsScript test → FitsTypes test (end_of (graph_of test) run)
ends-fit test run well there script = (ends test well there script run).5

-- ---- all of it

pub stays_well_typed : (test : Test) → AreWellTyped test.definitions → is_some (testcase_body (kind_at test.definitions test.testcase)) ≡ true → FitsScript test → StaysWellTyped test
stays_well_typed test well there script = record {
  begins = start_fits test well there;
  leads = λ run c e. replay_fits test run c well there script e;
  goes_on = λ run c label e. replay_meets test run c label well there script e;
  ends = λ run c label v e is. replay-ends test run c label v well there script e is;
}

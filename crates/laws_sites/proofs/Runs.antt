-- The configurations of runs stand by the rules.
use Rattle.std.proofs.Common.{◌≡◌, ℕ, Bool, true, false, List, [], Option, Some, None, Ok, IfSome, if◌then◌else◌}
use Rattle.std.specs.List.{All}
use Rattle.std.proofs.lemmas.List.Elements.{All-cons, All-nil}
use Rattle.ttcn_syntax.specs.declared.tree.definition.Definition.{Definition}
use Rattle.ttcn_syntax.specs.declared.tree.statement.Statement.{Statement}
use Rattle.check_scope.specs.Names.{kind_at}
use Rattle.check_rules.specs.Statements.{statements}
use Rattle.laws_sites.proofs.Blocks.{block-fine}
use Rattle.laws_sites.proofs.Changes.{IsFineConfiguration, IsFineGoing, ask-fine, come-fine, component-fine, each-keeps, exchange-fine, expired-fine, steps-fine}
use Rattle.laws_steps.proofs.Applying.{Anyhow, Leads}
use Rattle.laws_steps.proofs.Running.{end-holds, next-leads, replay-holds, start-leads}
use Rattle.laws_sites.proofs.Outside.{Begins, beginning-fine, testcase-fine}
use Rattle.laws_sites.proofs.Ports.{new-queues, no-queues}
use Rattle.laws_sites.specs.Standing.{IsFineComponent, IsFineFrame, IsFree, IsFrameOf, StandsByRules}
use Rattle.laws_steps.proofs.Found.{some-of}
use Rattle.semantics.specs.Configurations.{Component, Configuration, Data, End, Ended, Frame, Goes, Going, component_at, is_terminated_state, path_of}
use Rattle.semantics.specs.LiveParts.{husk, live_component, live_part}
use Rattle.semantics.specs.Runs.{body_frame, graph_of, mtc_with, replay, start, testcase_body}
use Rattle.semantics.specs.Sites.{beginning}
use Rattle.semantics.specs.Snapshots.{Snapshot, Test, mtc_of}
use Rattle.semantics.specs.Statements.{act}
use Rattle.semantics.specs.Steps.{Label, apply, come_in, exchanged, expired, next, settled, touch}
use Rattle.summary.specs.Run.{Run, end_of}
use Rattle.check_rules.specs.Rules.{AreWellTyped}
use Rattle.value_types.specs.Outcomes.{Fails, Outcome, Yields}
use Rattle.value_types.specs.declared.path.Path.{Path}
use Rattle.value_types.specs.declared.value.Value.{Value}

-- ---- in the words of the laws

told : (test : Test) (c : Configuration) → StandsByRules test c → IsFineConfiguration test.definitions c
told test (Ended v) is = tt
told test (Goes c) is = is

said : (test : Test) (c : Configuration) → IsFineConfiguration test.definitions c → StandsByRules test c
said test (Ended v) is = tt
said test (Goes c) is = is

if-said : (test : Test) (o : Option Configuration) → IfSome o (IsFineConfiguration test.definitions) → IfSome o (StandsByRules test)
if-said test None is = tt
if-said test (Some c) is = said test c is

out-said : (test : Test) (o : Option (Outcome Configuration)) → Leads Anyhow (IsFineConfiguration test.definitions) o → IfSome o (λ out. StandsByRules test (settled out))
out-said test None is = tt
out-said test (Some (Yields c)) is = said test c is
out-said test (Some (Fails why)) is = tt

-- ---- the start

module _ (test : Test) (well : AreWellTyped test.definitions) where
  mtc-fine : (body : List Statement) (members : Frame) → Begins test.definitions well test.testcase (statements body) → IsFineComponent test.definitions (mtc_with test body members)
  mtc-fine body members is =
      let frame : IsFrameOf test.definitions test.testcase (body_frame test body) = record {
        items = block-fine test.definitions test.testcase body (beginning test.testcase) is.0 (beginning-fine test.definitions well test.testcase) is.1;
        timers = All-nil (λ e. IsFree test.definitions test.testcase e.0);
      } in
      record {
        calls = All-cons (IsFineFrame test.definitions) (body_frame test body) [] (test.testcase, frame) (All-nil (IsFineFrame test.definitions));
        queues = new-queues test.definitions well (mtc_of test).component_type;
      }

  pub start-fine : IsFineConfiguration test.definitions (start test)
  start-fine =
      start-leads test Anyhow (IsFineGoing test.definitions)
      (λ body members is made. All-cons (IsFineComponent test.definitions) (mtc_with test body members) []
      (mtc-fine body members (some-of (λ b. Begins test.definitions well test.testcase (statements b)) (testcase_body (kind_at test.definitions test.testcase)) body is (testcase-fine test.definitions well test.testcase)))
      (All-nil (IsFineComponent test.definitions)))

  pub start_stands : StandsByRules test (start test)
  start_stands = said test (start test) start-fine

-- ---- steps

pub apply_stands : (test : Test) (snapshot : Snapshot) (c : Going) (p : Path) (x : Component) → AreWellTyped test.definitions → StandsByRules test (Goes c) → component_at c p ≡ Some x
    → IfSome (apply test c x.itself (act test snapshot x.own)) (λ out. StandsByRules test (settled out))
apply_stands test snapshot c p x well is found =
    out-said test (apply test c x.itself (act test snapshot x.own))
    (ask-fine test well snapshot c x is (some-of (IsFineComponent test.definitions) (component_at c p) x found (component-fine test.definitions c p is)))

pub expiry-stands : (test : Test) (c : Going) (p : Path) (x : Component) (number : ℕ) (name : List ℕ) (own : Data) → StandsByRules test (Goes c) → component_at c p ≡ Some x → expired number name x.own ≡ Some own
    → StandsByRules test (Goes (touch c (path_of x) (exchanged own)))
expiry-stands test c p x number name own is found expires =
    let fine : IsFineComponent test.definitions x = some-of (IsFineComponent test.definitions) (component_at c p) x found (component-fine test.definitions c p is) in
    exchange-fine test.definitions c (path_of x) own is
    (some-of (λ (own : Data). All (IsFineFrame test.definitions) own.calls) (expired number name x.own) own expires (expired-fine test.definitions number name x.own fine.calls))

pub come-stands : (test : Test) (c : Going) (system_port : List ℕ) (e : End) (v : Value) → StandsByRules test (Goes c) → StandsByRules test (Goes (come_in system_port e v c))
come-stands test c system_port e v is = come-fine test.definitions c system_port e v is

next-of : (test : Test) → AreWellTyped test.definitions → (c : Configuration) (label : Label) → IsFineConfiguration test.definitions c → IfSome (next test c label) (IsFineConfiguration test.definitions)
next-of test well c label is = next-leads test Anyhow (IsFineGoing test.definitions) (steps-fine test well) c label is

pub next_stands : (test : Test) (c d : Configuration) (label : Label) → AreWellTyped test.definitions → StandsByRules test c → next test c label ≡ Some d → StandsByRules test d
next_stands test c d label well is e = said test d (some-of (IsFineConfiguration test.definitions) (next test c label) d e (next-of test well c label (told test c is)))

-- ---- runs

pub replay_stands : (test : Test) (run : List Label) (c : Configuration) → AreWellTyped test.definitions → replay test run ≡ Ok c → StandsByRules test c
replay_stands test run c well e = said test c (replay-holds test (IsFineConfiguration test.definitions) (start-fine test well) (next-of test well) run c e)

pub ends-stand : (test : Test) (run : Run Label) → AreWellTyped test.definitions → StandsByRules test (end_of (graph_of test) run)
ends-stand test run well = said test (end_of (graph_of test) run) (end-holds test (IsFineConfiguration test.definitions) (start-fine test well) (next-of test well) run)

-- ---- live parts

live-fine : (definitions : List Definition) (b : Bool) (x : Component) → IsFineComponent definitions x → IsFineComponent definitions (if b then husk (path_of x) else x)
live-fine definitions true x is = record { calls = All-nil (IsFineFrame definitions); queues = no-queues }
live-fine definitions false x is = is

pub live_stands : (test : Test) (c : Configuration) → StandsByRules test c → StandsByRules test (live_part c)
live_stands test (Ended v) is = tt
live_stands test (Goes c) is = each-keeps test.definitions live_component (λ x fine. live-fine test.definitions (is_terminated_state x.state) x fine) c.components is

-- Where runs start, and where labels lead (ES 201 873-4).
use Rattle.std.specs.Prelude.{ℕ, ◌+◌, List, [], ◌∷◌, Option, Some, None, Result, Ok, Err}
use Rattle.ttcn_syntax.specs.declared.tree.definition.DefinitionKind.{DefinitionKind}
use Rattle.ttcn_syntax.specs.declared.tree.definition.DefinitionKind.TheVariants as kind
use Rattle.ttcn_syntax.specs.declared.tree.statement.Statement.{Statement}
use Rattle.ttcn_syntax.specs.declared.tree.statement.Verdict.TheVariants as verdict
use Rattle.check_scope.specs.Names.{kind_at}
use Rattle.semantics.specs.Configurations.{Component, Configuration, Ended, Frame, Goes, Running, badness}
use Rattle.semantics.specs.Creating.{new_component, new_members}
use Rattle.semantics.specs.Items.{items}
use Rattle.semantics.specs.Labels.{labels}
use Rattle.semantics.specs.Sites.{beginning}
use Rattle.semantics.specs.Snapshots.{Snapshot, Test, mtc_of}
use Rattle.semantics.specs.Steps.{Label, begin, next, settled}
use Rattle.summary.specs.Graph.{Graph}
use Rattle.value_types.specs.Outcomes.{Outcome, or_unmet, outcome_and_then, outcome_map}

-- ---- the start

-- the body of a test case; any other definition gives none
abbrev pub testcase_body : Option DefinitionKind → Option (List Statement)
testcase_body (Some (kind.Testcase t)) = Some t.body
testcase_body _ = None

-- the MTC runs, and no other component is there
abbrev pub first_snapshot : Test → Snapshot
first_snapshot test = record { itself = mtc_of test; fronts = []; timers = []; member_timers = []; states = ((mtc_of test).path, Running) ∷ [] }

-- frame 1 of the MTC, in which the whole body of the test case remains to be done
abbrev pub body_frame : Test → List Statement → Frame
body_frame test body = record { remaining = items test.definitions (beginning test.testcase) body; values = []; timers = [] }

-- the MTC, with the body of the test case as frame 1
abbrev pub mtc_with : Test → List Statement → Frame → Component
mtc_with test body members = begin (body_frame test body) (new_component test (mtc_of test) members)

-- the configuration in which the MTC alone begins this body, where its frame 0 can be made
abbrev pub started : Test → List Statement → Outcome Configuration
started test body =
    outcome_map (λ members. Goes (record { components = mtc_with test body members ∷ []; connections = []; mappings = []; delivered = []; forgotten = verdict.None })) (new_members test (mtc_of test) (first_snapshot test))

-- the configuration in which runs start: a fault in frame 0 ends the test case
abbrev pub start : Test → Configuration
start test = settled (outcome_and_then (started test) (or_unmet (testcase_body (kind_at test.definitions test.testcase))))

-- ---- runs

-- what is made of the value that an option has, or what stands for it where there is none
abbrev pub option_elim : {A B : Type 0} → B → (A → B) → Option A → B
option_elim none some None = none
option_elim none some (Some a) = some a

-- the mark of a test case that ended: its verdict's number
abbrev pub mark_of : Configuration → Option ℕ
mark_of (Ended v) = Some (badness v)
mark_of (Goes c) = None

-- the configurations of a test case and their steps
abbrev pub graph_of : Test → Graph Configuration Label
graph_of test = record {
  first = start test;
  enabled = labels test;
  after = λ c label. option_elim c (λ d. d) (next test c label);
  mark = mark_of;
}

-- labels one after the other from a configuration, each enabled where it stands: the configuration that they lead to, or the number of the first that isn't enabled, where the first of all has this number
abbrev pub replay_from : Test → List Label → ℕ → Configuration → Result Configuration ℕ
replay_from test [] number c = Ok c
replay_from test (label ∷ others) number c = option_elim (Err number) (replay_from test others (number + 1)) (next test c label)

-- labels one after the other from the start: where they lead, or the number of the first that isn't enabled
abbrev pub replay : Test → List Label → Result Configuration ℕ
replay test run = replay_from test run 1 (start test)

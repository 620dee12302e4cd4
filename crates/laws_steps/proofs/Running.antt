-- One walk over runs: what holds where runs start, and behind each step, holds wherever a run leads.
use Rattle.std.proofs.Common.{◌≡◌, ℕ, ◌+◌, Bool, true, false, List, [], ◌∷◌, Option, Some, None, Result, Ok, Err, IfSome, option_map, refl, subst, if◌then◌else◌}
use Rattle.std.specs.Option.{option_and_then}
use Rattle.ttcn_syntax.specs.declared.tree.statement.Statement as tree
use Rattle.ttcn_syntax.specs.declared.tree.statement.Verdict.TheVariants as verdict
use Rattle.check_scope.specs.Names.{kind_at}
use Rattle.laws_steps.proofs.Applying.{IfGoes, Leads, LeadsWell}
use Rattle.semantics.specs.Configurations.{Component, Configuration, Data, End, Ended, Frame, Goes, Going, component_at, is_running_state, path_of}
use Rattle.semantics.specs.Creating.{new_members}
use Rattle.semantics.specs.Runs.{first_snapshot, graph_of, mtc_with, option_elim, replay, replay_from, start, started, testcase_body}
use Rattle.semantics.specs.Snapshots.{Test, mtc_of, snapshot_of}
use Rattle.semantics.specs.Statements.{act}
use Rattle.semantics.specs.Steps.{Delivery, Expiry, Label, Statement, apply, come_in, exchanged, expired, expiry_step, next, next_message, settled, statement_step, step, step_in, touch}
use Rattle.summary.specs.Run.{Run, Start, Then, end_of}
use Rattle.value_types.specs.Frames.{entry}
use Rattle.value_types.specs.Outcomes.{Failure, Fails, Outcome, Yields, or_unmet, outcome_and_then, outcome_map}
use Rattle.value_types.specs.declared.path.Path.{Path}
use Rattle.value_types.specs.declared.value.Value.{Value}

-- ---- steps

-- What a law says of steps in a configuration in which the test case goes on: of what a component that runs asks for, of a timer that expires, and of a message that comes in.
pub record Steps (test : Test) (May : Failure → Type 0) (Stands : Going → Type 0) (c : Going) : Type 0 where
  pub asked : (p : Path) (x : Component) → component_at c p ≡ Some x → is_running_state x.state ≡ true → Leads May (IfGoes Stands) (apply test c x.itself (act test (snapshot_of c x) x.own))
  pub expires : (p : Path) (x : Component) (number : ℕ) (name : List ℕ) (own : Data) → component_at c p ≡ Some x → is_running_state x.state ≡ true → expired number name x.own ≡ Some own
      → Stands (touch c (path_of x) (exchanged own))
  pub comes : (system_port : List ℕ) (e : End) (v : Value) → entry c.mappings system_port ≡ Some e → next_message test c system_port ≡ Some v → Stands (come_in system_port e v c)

module _ (test : Test) (May : Failure → Type 0) (Stands : Going → Type 0) (c : Going) (steps : Steps test May Stands c) where
  running-leads : (b : Bool) (o : Option (Outcome Configuration)) → (b ≡ true → Leads May (IfGoes Stands) o) → Leads May (IfGoes Stands) (if b then o else None)
  running-leads true o is = is refl
  running-leads false o is = tt

  then-leads : (f : Component → Option (Outcome Configuration)) (o : Option Component) → ((x : Component) → o ≡ Some x → Leads May (IfGoes Stands) (f x)) → Leads May (IfGoes Stands) (option_and_then f o)
  then-leads f None is = tt
  then-leads f (Some x) is = is x refl

  expiry-leads : (p : Path) (x : Component) (number : ℕ) (name : List ℕ) (o : Option Data) → component_at c p ≡ Some x → is_running_state x.state ≡ true → expired number name x.own ≡ o
      → Leads May (IfGoes Stands) (option_map (λ own. Yields (Goes (touch c (path_of x) (exchanged own)))) o)
  expiry-leads p x number name None found runs is = tt
  expiry-leads p x number name (Some own) found runs is = steps.expires p x number name own found runs is

  message-leads : (system_port : List ℕ) (e : End) (o : Option Value) → entry c.mappings system_port ≡ Some e → next_message test c system_port ≡ o
      → Leads May (IfGoes Stands) (option_map (λ v. Yields (Goes (come_in system_port e v c))) o)
  message-leads system_port e None mapped next = tt
  message-leads system_port e (Some v) mapped next = steps.comes system_port e v mapped next

  delivery-leads : (system_port : List ℕ) (o : Option End) → entry c.mappings system_port ≡ o
      → Leads May (IfGoes Stands) (option_and_then (λ e. option_map (λ v. Yields (Goes (come_in system_port e v c))) (next_message test c system_port)) o)
  delivery-leads system_port None mapped = tt
  delivery-leads system_port (Some e) mapped = message-leads system_port e (next_message test c system_port) mapped refl

  -- the step of a label
  pub step-leads : (label : Label) → Leads May (IfGoes Stands) (step_in test c label)
  step-leads (Statement p) =
      then-leads (statement_step test c) (component_at c p)
      (λ x found. running-leads (is_running_state x.state) (apply test c x.itself (act test (snapshot_of c x) x.own)) (λ runs. steps.asked p x found runs))
  step-leads (Expiry p number name) =
      then-leads (expiry_step c number name) (component_at c p)
      (λ x found. running-leads (is_running_state x.state) (option_map (λ own. Yields (Goes (touch c (path_of x) (exchanged own)))) (expired number name x.own))
      (λ runs. expiry-leads p x number name (expired number name x.own) found runs refl))
  step-leads (Delivery system_port) = delivery-leads system_port (entry c.mappings system_port) refl

-- ---- the next configuration

module _ (test : Test) (May : Failure → Type 0) (Stands : Going → Type 0) where
  settled-is : (out : Outcome Configuration) → LeadsWell May (IfGoes Stands) out → IfGoes Stands (settled out)
  settled-is (Yields c) is = is
  settled-is (Fails why) is = tt

  -- a step, as the configuration behind it
  pub settled-leads : (o : Option (Outcome Configuration)) → Leads May (IfGoes Stands) o → IfSome (option_map settled o) (IfGoes Stands)
  settled-leads None is = tt
  settled-leads (Some out) is = settled-is out is

  module _ (steps : (c : Going) → Stands c → Steps test May Stands c) where
    pub steps-lead : (c : Configuration) (label : Label) → IfGoes Stands c → Leads May (IfGoes Stands) (step test c label)
    steps-lead (Ended v) label is = tt
    steps-lead (Goes c) label is = step-leads test May Stands c (steps c is) label

    pub next-leads : (c : Configuration) (label : Label) → IfGoes Stands c → IfSome (next test c label) (IfGoes Stands)
    next-leads c label is = settled-leads (step test c label) (steps-lead c label is)

-- ---- the start

-- what holds of the configuration in which the MTC alone begins the body of the test case, holds of the one in which runs start
pub start-leads : (test : Test) (May : Failure → Type 0) (Stands : Going → Type 0)
    → ((body : List tree.Statement) (members : Frame) → testcase_body (kind_at test.definitions test.testcase) ≡ Some body → new_members test (mtc_of test) (first_snapshot test) ≡ Yields members
    → Stands (record { components = mtc_with test body members ∷ []; connections = []; mappings = []; delivered = []; forgotten = verdict.None })) → IfGoes Stands (start test)
start-leads test May Stands begins = of-body (testcase_body (kind_at test.definitions test.testcase)) refl
  where
    of-members : (body : List tree.Statement) (o : Outcome Frame) → testcase_body (kind_at test.definitions test.testcase) ≡ Some body → new_members test (mtc_of test) (first_snapshot test) ≡ o
        → IfGoes Stands (settled (outcome_map (λ members. Goes (record { components = mtc_with test body members ∷ []; connections = []; mappings = []; delivered = []; forgotten = verdict.None })) o))
    of-members body (Yields members) is made = begins body members is made
    of-members body (Fails why) is made = tt

    of-body : (o : Option (List tree.Statement)) → testcase_body (kind_at test.definitions test.testcase) ≡ o → IfGoes Stands (settled (outcome_and_then (started test) (or_unmet o)))
    of-body None is = tt
    of-body (Some body) is = of-members body (new_members test (mtc_of test) (first_snapshot test)) is refl

-- ---- runs

module _ (test : Test) (Holds : Configuration → Type 0) (begins : Holds (start test)) (follows : (c : Configuration) (label : Label) → Holds c → IfSome (next test c label) Holds) where
  abbrev IfReached : Result Configuration ℕ → Type 0
  IfReached (Ok c) = Holds c
  IfReached (Err number) = Unit {0}

  goes-on : (number : ℕ) (more : Configuration → Result Configuration ℕ) (o : Option Configuration) → ((c : Configuration) → Holds c → IfReached (more c)) → IfSome o Holds → IfReached (option_elim (Err number) more o)
  goes-on number more None holds is = tt
  goes-on number more (Some c) holds is = holds c is

  replays-from : (run : List Label) (number : ℕ) (c : Configuration) → Holds c → IfReached (replay_from test run number c)
  replays-from [] number c is = is
  replays-from (label ∷ others) number c is =
      goes-on number (replay_from test others (number + 1)) (next test c label) (λ d also. replays-from others (number + 1) d also) (follows c label is)

  -- where labels lead one after the other
  pub replay-holds : (run : List Label) (c : Configuration) → replay test run ≡ Ok c → Holds c
  replay-holds run c e = subst IfReached e (replays-from run 1 (start test) begins)

  after-holds : (c : Configuration) (o : Option Configuration) → Holds c → IfSome o Holds → Holds (option_elim c (λ d. d) o)
  after-holds c None is found = is
  after-holds c (Some d) is found = found

  -- where a run of the graph ends
  pub end-holds : (run : Run Label) → Holds (end_of (graph_of test) run)
  end-holds Start = begins
  end-holds (Then run label) =
      after-holds (end_of (graph_of test) run) (next test (end_of (graph_of test) run) label) (end-holds run) (follows (end_of (graph_of test) run) label (end-holds run))

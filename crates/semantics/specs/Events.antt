-- Whether an event has happened in a snapshot, and what taking its branch does (ES 201 873-1, 20.2, 21.3, 22.2 and 23).
use Rattle.std.specs.Prelude.{Bool, true, false, not, List, [], ◌∷◌, ◌++◌, Option, Some, None, bytes_eq, if◌then◌else◌}
use Rattle.std.specs.List.{find}
use Rattle.ttcn_syntax.specs.declared.tree.expression.ComponentRef.{ComponentRef}
use Rattle.ttcn_syntax.specs.declared.tree.expression.Reference.{Reference}
use Rattle.ttcn_syntax.specs.declared.tree.statement.Event.{Event}
use Rattle.ttcn_syntax.specs.declared.tree.statement.Event.TheVariants as event
use Rattle.ttcn_syntax.specs.declared.tree.statement.PortSelector.{PortSelector}
use Rattle.ttcn_syntax.specs.declared.tree.statement.PortSelector.TheVariants as selector
use Rattle.ttcn_syntax.specs.declared.tree.statement.Receive.{Receive}
use Rattle.ttcn_syntax.specs.declared.tree.template.MessageTemplate.{MessageTemplate}
use Rattle.check_rules.specs.Targets.{target_at}
use Rattle.check_scope.specs.Names.{Scope}
use Rattle.check_scope.specs.Typings.{same_type}
use Rattle.check_scope.specs.declared.types.DataType.{DataType}
use Rattle.check_scope.specs.declared.types.DataType.TheVariants as type
use Rattle.check_rules.specs.Messages.{incoming, received_type}
use Rattle.semantics.specs.Branches.{Chance, Judge, Written, Fault, Open, read_by}
use Rattle.semantics.specs.Configurations.{Data, Message, same_path}
use Rattle.semantics.specs.Entries.{Identifier}
use Rattle.semantics.specs.Sites.{Site, scope_at}
use Rattle.semantics.specs.Snapshots.{Snapshot, Test, is_terminated_in, members_in, mtc_of, others_run, seen_members}
use Rattle.value_types.specs.Frames.{seen_entry}
use Rattle.value_types.specs.Matching.{is_match}
use Rattle.value_types.specs.Outcomes.{DynamicError, Fails, Failure, Outcome, Unmet, Yields, dynamic_error, outcome_and_then, outcome_map, unmet}
use Rattle.value_types.specs.Readings.{Reading, component_at, component_referred}
use Rattle.value_types.specs.Templates.{template_wanted}
use Rattle.value_types.specs.declared.frame.TimerState.{TimerState}
use Rattle.value_types.specs.declared.frame.TimerState.TheVariants as timer
use Rattle.value_types.specs.declared.value.ComponentId.{ComponentId}
use Rattle.value_types.specs.declared.value.Value.{Value, out-Value}
use Rattle.value_types.specs.declared.value.Value.TheOpen.{Value-F}
use Rattle.value_types.specs.declared.value.Value.TheVariants as value

-- ---- what taking a branch does, beside what it leaves to be done

-- a value that a redirect stores in a reference
pub record Redirect : Type 0 where
  pub reference : Reference
  pub value : Value

-- the effect of a branch: none, a message is removed and values are stored, or a timer becomes inactive
pub data Effect : Type 0 where
  -- nothing more
  Plain : Effect
  -- the first message of a port is removed, and values are stored
  Receives : Identifier → List Redirect → Effect
  -- a timer becomes inactive
  Elapses : Identifier → Effect

-- what comes of judging an event
pub data Trial : Type 0 where
  -- the event has not happened
  Passed : Trial
  -- the event can't be judged, or its branch can't be taken
  Faulty : Failure → Trial
  -- the event has happened
  Happened : Effect → Trial

-- an event without effect: it has happened where this is true, and has not where it is false
abbrev pub happened_if : Bool → Trial
happened_if true = Happened Plain
happened_if false = Passed

-- what comes of what may fail before it
abbrev pub tried : {A : Type 0} → (A → Trial) → Outcome A → Trial
tried try (Yields a) = try a
tried try (Fails why) = Faulty why

-- ---- timers and components

-- the state of a timer
abbrev pub timer_seen : Test → Snapshot → Data → Judge → Identifier → Option TimerState
timer_seen test snapshot own judge name =
    seen_entry judge.view.timers (seen_members test judge.site (members_in snapshot own)).timers name

-- `t.timeout`
abbrev pub try_timeout : Identifier → Option TimerState → Trial
try_timeout name None = Faulty Unmet
try_timeout name (Some timer.Expired) = Happened (Elapses name)
try_timeout name (Some timer.Running) = Passed
try_timeout name (Some timer.Inactive) = Passed

-- `c.done`: `null` is a dynamic error
abbrev pub try_done : Snapshot → Reading → ComponentRef → Trial
try_done snapshot reading reference =
    tried (λ c. happened_if (is_terminated_in snapshot c.path)) (component_referred reading reference)

-- `all component.done`: a dynamic error elsewhere than on the MTC
abbrev pub try_all_done : Test → Snapshot → Reading → Trial
try_all_done test snapshot reading =
    if same_path reading.itself.path (mtc_of test).path then happened_if (not (others_run snapshot (mtc_of test).path)) else Faulty DynamicError

-- ---- messages

-- the type of a value by itself
abbrev pub type_in : Value-F Value → Option DataType
type_in (Value-F.Integer n) = Some type.Integer
type_in (Value-F.Boolean b) = Some type.Boolean
type_in (Value-F.Enumerated at n) = Some (type.Enumerated at)
type_in (Value-F.Record at fields) = Some (type.Record at)
type_in (Value-F.Component c) = Some (type.Component c.component_type)
type_in (Value-F.Default n) = Some type.Default
type_in Value-F.Null = None
type_in Value-F.Omit = None

-- the type of a value by itself: `null` and `omit` have none
abbrev pub type_of : Value → Option DataType
type_of v = type_in (out-Value v)

-- ---- redirects

-- the sender of a message goes to a target of its component's type alone
abbrev pub fits_sender : ComponentId → Option DataType → Bool
fits_sender sender None = false
fits_sender sender (Some wanted) = same_type wanted (type.Component sender.component_type)

-- what the value redirect of a receive stores, where it has one
abbrev pub redirected_value : Option Reference → Value → List Redirect
redirected_value None v = []
redirected_value (Some reference) v = record { reference = reference; value = v } ∷ []

-- what a `sender` redirect stores: a dynamic error where its target is not of the sender's component type, and where no component sent the message
abbrev pub redirected_sender : Scope → Option Reference → Option ComponentId → Outcome (List Redirect)
redirected_sender scope None sender = Yields []
redirected_sender scope (Some reference) None = dynamic_error
redirected_sender scope (Some reference) (Some sender) =
    if fits_sender sender (target_at scope reference).data_type
    then Yields (record { reference = reference; value = value.Component sender } ∷ [])
    else dynamic_error

-- what a receive stores of a message
abbrev pub redirects : Scope → Receive → Message → Outcome (List Redirect)
redirects scope receive message =
    outcome_map (λ stored. redirected_value receive.value message.value ++ stored) (redirected_sender scope receive.sender message.sender)

-- ---- receives

-- a component sent a message
abbrev pub has_sent : ComponentId → Option ComponentId → Bool
has_sent c None = false
has_sent c (Some sender) = same_path c.path sender.path

-- a message comes from a component: `null` matches none
abbrev pub is_from : Option ComponentId → Value-F Value → Outcome Bool
is_from sender (Value-F.Component c) = Yields (has_sent c sender)
is_from sender Value-F.Null = Yields false
is_from sender _ = unmet

-- the sender of a message fits a `from` clause: without a clause each sender does, and a message that none sent
abbrev pub from_fits : Reading → Option ComponentRef → Option ComponentId → Outcome Bool
from_fits reading None sender = Yields true
from_fits reading (Some reference) sender = outcome_and_then (λ v. is_from sender (out-Value v)) (component_at reading reference)

-- a template of the text matches a value of a type
abbrev pub template_fits : Reading → DataType → Option MessageTemplate → Value → Outcome Bool
template_fits reading of None v = Yields true
template_fits reading of (Some message) v = outcome_map (λ t. is_match t v) (template_wanted message.template reading (Some of))

-- a receive at a port: where the message matches it has happened, with what its redirects store
abbrev pub happened_or_passed : Outcome (List Redirect) → Identifier → Bool → Trial
happened_or_passed stored port false = Passed
happened_or_passed stored port true = tried (λ redirects. Happened (Receives port redirects)) stored

-- a message of the right type in front of a port: the sender first, then the template, which is evaluated only where the sender fits
abbrev pub try_template : Test → Site → Reading → Receive → Identifier → Message → DataType → Bool → Trial
try_template test site reading receive port message of false = Passed
try_template test site reading receive port message of true =
    tried (happened_or_passed (redirects (scope_at test.definitions site) receive message) port) (template_fits reading of receive.message message.value)

-- the first message of a port, whose type is right: its sender is compared, and then its value is matched
abbrev pub try_typed : Test → Site → Reading → Receive → Identifier → Message → DataType → Trial
try_typed test site reading receive port message of =
    tried (try_template test site reading receive port message of) (from_fits reading receive.from message.sender)

-- whether a message is of a type that a receive takes: any where no template stands
abbrev pub try_type : Test → Site → Reading → Receive → Identifier → Message → Option DataType → Option DataType → Option MessageTemplate → Trial
try_type test site reading receive port message wanted None template = Faulty Unmet
try_type test site reading receive port message wanted (Some found) None = try_typed test site reading receive port message found
try_type test site reading receive port message None (Some found) (Some template) = Faulty Unmet
try_type test site reading receive port message (Some wanted) (Some found) (Some template) =
    if same_type wanted found then try_typed test site reading receive port message found else Passed

-- the first message of a port, if there is one
abbrev pub try_front : Test → Site → Reading → Receive → Identifier → Option Message → Trial
try_front test site reading receive port None = Passed
try_front test site reading receive port (Some message) =
    try_type test site reading receive port message (received_type (scope_at test.definitions site) (incoming (scope_at test.definitions site) receive.port) receive.message)
    (type_of message.value) receive.message

-- the next trial, where the event of the first one has not happened
abbrev pub or_next : Trial → Trial → Trial
or_next Passed next = next
or_next found next = found

-- `any port`: the ports in their order
abbrev pub try_fronts : Test → Site → Reading → Receive → List (Identifier × Option Message) → Trial
try_fronts test site reading receive [] = Passed
try_fronts test site reading receive (front ∷ fronts) = or_next (try_front test site reading receive front.0 front.1) (try_fronts test site reading receive fronts)

-- a receive at the port that was found in a snapshot; no checked module names one that isn't there
abbrev pub try_port : Test → Site → Reading → Receive → Option (Identifier × Option Message) → Trial
try_port test site reading receive None = Faulty Unmet
try_port test site reading receive (Some front) = try_front test site reading receive front.0 front.1

-- a receive: `any port` tries all ports of a snapshot, a name the port that has it
abbrev pub try_receive : Test → Snapshot → Site → Reading → Receive → PortSelector → Trial
try_receive test snapshot site reading receive selector.Any = try_fronts test site reading receive snapshot.fronts
try_receive test snapshot site reading receive (selector.Named name) = try_port test site reading receive (find (λ front. bytes_eq front.0 name) snapshot.fronts)

-- ---- branches

-- an event is judged in a snapshot: a receive, a timeout, or `done` of one component or of all others
abbrev pub try_event : Test → Snapshot → Data → Judge → Event → Trial
try_event test snapshot own judge (event.Receive receive) =
    try_receive test snapshot judge.site (read_by test snapshot own judge) receive receive.port
try_event test snapshot own judge (event.Timeout name) = try_timeout name (timer_seen test snapshot own judge name)
try_event test snapshot own judge (event.Done reference) = try_done snapshot (read_by test snapshot own judge) reference
try_event test snapshot own judge event.AllDone = try_all_done test snapshot (read_by test snapshot own judge)

-- an `else` waits for nothing
abbrev pub try_chance : Test → Snapshot → Data → Judge → Option Event → Trial
try_chance test snapshot own judge None = Happened Plain
try_chance test snapshot own judge (Some e) = try_event test snapshot own judge e

-- ---- the choice

-- what a component does at an `alt`
pub data Choice : Type 0 where
  -- no branch can be taken
  Nothing : Choice
  -- the first branch that isn't passed over can't be judged or taken
  Refused : Failure → Choice
  -- this is the first branch that can be taken
  Taken : Chance → Effect → Choice

-- the choice behind the trial of a branch: it is passed over, refused or taken
abbrev pub chosen_by : Chance → Trial → Choice → Choice
chosen_by chance Passed others = others
chosen_by chance (Faulty why) others = Refused why
chosen_by chance (Happened effect) others = Taken chance effect

-- the first of the written-out branches that can be taken
abbrev pub first_choice : Test → Snapshot → Data → List Written → Choice
first_choice test snapshot own [] = Nothing
first_choice test snapshot own (Fault why ∷ written) = Refused why
first_choice test snapshot own (Open chance ∷ written) =
    chosen_by chance (try_chance test snapshot own chance.judge chance.event) (first_choice test snapshot own written)

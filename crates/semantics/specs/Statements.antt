-- What the first remaining item of a component's last frame does in its step (ES 201 873-1, 16 and 19 to 24).
use Rattle.std.specs.Prelude.{ℕ, ◌+◌, Bool, true, false, ◌&&◌, not, List, [], ◌∷◌, ◌++◌, length, nat_eq, nat_lt, Option, Some, None, slice_get, if◌then◌else◌}
use Rattle.std.specs.List.{filter, list_all, list_any}
use Rattle.std.specs.Option.{option_and_then, option_map, option_or}
use Rattle.ttcn_syntax.specs.declared.tree.definition.Definition.{Definition}
use Rattle.ttcn_syntax.specs.declared.tree.definition.DefinitionKind.{DefinitionKind}
use Rattle.ttcn_syntax.specs.declared.tree.definition.DefinitionKind.TheVariants as kind
use Rattle.ttcn_syntax.specs.declared.tree.expression.ComponentRef.{ComponentRef}
use Rattle.ttcn_syntax.specs.declared.tree.expression.ComponentRef.TheVariants as component
use Rattle.ttcn_syntax.specs.declared.tree.expression.Expr.{Expr}
use Rattle.ttcn_syntax.specs.declared.tree.expression.Reference.{Reference}
use Rattle.ttcn_syntax.specs.declared.tree.statement.Action.TheOpen.{Action-F}
use Rattle.ttcn_syntax.specs.declared.tree.statement.Assignment.{Assignment}
use Rattle.ttcn_syntax.specs.declared.tree.statement.Conditional.{Conditional, out-Conditional}
use Rattle.ttcn_syntax.specs.declared.tree.statement.Constant.{Constant}
use Rattle.ttcn_syntax.specs.declared.tree.statement.ForStart.TheVariants as for_start
use Rattle.ttcn_syntax.specs.declared.tree.statement.MapOperation.{MapOperation}
use Rattle.ttcn_syntax.specs.declared.tree.statement.MapOperation.TheVariants as operation
use Rattle.ttcn_syntax.specs.declared.tree.statement.Mapping.{Mapping}
use Rattle.ttcn_syntax.specs.declared.tree.statement.PortRef.{PortRef}
use Rattle.ttcn_syntax.specs.declared.tree.statement.Send.{Send}
use Rattle.ttcn_syntax.specs.declared.tree.statement.Statement.{Statement, out-Statement}
use Rattle.ttcn_syntax.specs.declared.tree.statement.Timer.{Timer}
use Rattle.ttcn_syntax.specs.declared.tree.statement.Variable.{Variable}
use Rattle.ttcn_syntax.specs.declared.tree.statement.Verdict.{Verdict}
use Rattle.ttcn_syntax.specs.declared.tree.value.Call.{Call}
use Rattle.ttcn_syntax.specs.declared.tree.value.Rhs.{Rhs}
use Rattle.ttcn_syntax.specs.declared.tree.value.Rhs.TheVariants as rhs
use Rattle.ttcn_syntax.specs.declared.tree.value.Value as written
use Rattle.check_rules.specs.Calls.{altstep_meant, behaviour_meant, component_named, parameters_of, result_type_of}
use Rattle.check_rules.specs.Targets as checked
use Rattle.check_scope.specs.Names.{Scope, component_meant, kind_at, module_names, names_on, resolved}
use Rattle.check_scope.specs.PortTypes.{agrees, types_of_port}
use Rattle.check_scope.specs.Typings.{type_known}
use Rattle.check_scope.specs.declared.types.DataType.{DataType}
use Rattle.check_rules.specs.Messages.{passage_at, port_meant, type_of_message}
use Rattle.semantics.specs.Branches.{Judge, Written, frame_with, written_alt, written_defaults}
use Rattle.semantics.specs.Configurations.{ActiveDefault, Component, Data, End, Frame, same_end}
use Rattle.semantics.specs.Creating.{child_of, new_component, new_members}
use Rattle.semantics.specs.Entries.{Identifier}
use Rattle.semantics.specs.Events.{Choice, Nothing, Refused, Taken, first_choice}
use Rattle.semantics.specs.Items.{Does, Doing, From, Item, Last, Loop, Mark, Name, Part, Start, Target, Waiting, Whole, action_of, items, items_if_any, site_in_for, start_items}
use Rattle.semantics.specs.Sites.{Site, beginning, scope_at}
use Rattle.semantics.specs.Snapshots.{Snapshot, Test, last_view, reading_in, type_said}
use Rattle.semantics.specs.Storing.{declare, declare_timer, forget, going_on, in_last, set_timer, store, target_meant, with_calls}
use Rattle.semantics.specs.Taking.{port_taken, repeat_alt, taken}
use Rattle.value_types.specs.Evaluation.{condition_of}
use Rattle.value_types.specs.Literals.{value_wanted}
use Rattle.value_types.specs.Matching.{specific_value}
use Rattle.value_types.specs.Outcomes.{DynamicError, Failure, Fails, Outcome, Unmet, Yields, dynamic_error, outcome_and_then, outcome_map, unmet}
use Rattle.value_types.specs.Readings.{Reading, component_referred, referred, timer_at}
use Rattle.value_types.specs.Templates.{arguments, template_wanted}
use Rattle.value_types.specs.declared.frame.TimerState.TheVariants as timer
use Rattle.value_types.specs.declared.path.Path.{Path}
use Rattle.value_types.specs.declared.value.ComponentId.{ComponentId}
use Rattle.value_types.specs.declared.value.Value.{Value, out-Value}
use Rattle.value_types.specs.declared.value.Value.TheOpen.{Value-F}
use Rattle.value_types.specs.declared.value.Value.TheVariants as value

-- what a component asks for among all components, beside the change of its own data
pub data Request : Type 0 where
  -- nothing more
  Continues : Request
  -- the component's verdict gets no better than this
  Worsens : Verdict → Request
  -- the first message of a port is removed
  Removes : Identifier → Request
  -- a message is sent from a port, to a component where one is named
  Sends : Identifier → Option Path → Value → Request
  -- a new component
  Creates : Component → Request
  -- a created component starts with a frame
  Starts : Path → Frame → Request
  -- a component stops
  Stops : Path → Request
  -- two ports are connected
  Connects : End → End → Request
  -- a port is mapped to a system port
  Maps : End → Identifier → Request
  -- a port is mapped to a system port no more
  Unmaps : End → Identifier → Request

-- what a component does in its step
pub data Act : Type 0 where
  -- nothing: it has no step
  Waits : Act
  -- its step fails
  Errs : Failure → Act
  -- it has these data behind its step, and asks for this
  Requests : Request → Data → Act

-- what comes of what may fail
abbrev pub acting : {A : Type 0} → (A → Act) → Outcome A → Act
acting act (Yields a) = act a
acting act (Fails why) = Errs why

-- nothing is asked for but a change of the component's own data, which may fail
abbrev pub continuing : Outcome Data → Act
continuing = acting (Requests Continues)

-- a component has no more children, activations and frames than this
abbrev pub most : ℕ
most = 4294967295

-- ---- where a component stands

-- the test case, what the component sees of others, its data, its last frame and those below, and the items behind the first
pub record Stand : Type 0 where
  pub test : Test
  pub snapshot : Snapshot
  pub own : Data
  pub frame : Frame
  pub below : List Frame
  pub rest : List Item

-- what is read at a site in the last frame
abbrev pub reads : Stand → Site → Reading
reads stand site = reading_in stand.test stand.snapshot stand.own site (last_view stand.snapshot stand.frame)

-- the data, where these items remain
abbrev pub remaining : Stand → List Item → Data
remaining stand items = going_on items stand.own

-- the data where the step is done
abbrev pub done : Stand → Data
done stand = remaining stand stand.rest

-- nothing is done but that these items remain in the last frame
abbrev pub go_on : Stand → List Item → Act
go_on stand items = Requests Continues (remaining stand items)

-- ---- calls

-- data with these frames above frame 0: too many frames, frame 0 among them, are a dynamic error
abbrev pub with_frames : List Frame → Data → Outcome Data
with_frames calls own = if nat_lt (length calls) most then Yields (with_calls calls own) else dynamic_error

-- the body of a function; any other definition gives none
abbrev pub body_of : Option DefinitionKind → Option (List Statement)
body_of (Some (kind.Function f)) = Some f.body
body_of _ = None

-- a frame of the function at a position with these arguments
abbrev pub function_frame : Test → ℕ → List Value → List Statement → Frame
function_frame test at values body = frame_with test.definitions at values (items test.definitions (beginning at) body)

-- the frame of a call of a function: its arguments are evaluated
abbrev pub frame_at : Stand → Site → ℕ → List written.Value → Option (List Statement) → Outcome Frame
frame_at stand site at given None = unmet
frame_at stand site at given (Some body) =
    outcome_map (λ values. function_frame stand.test at values body)
    (arguments (reads stand site) (parameters_of (kind_at stand.test.definitions at)) given)

-- the frame of a call of the function at a position, where the called name means a behaviour
abbrev pub called_frame : Stand → Site → Call → Option ℕ → Outcome Frame
called_frame stand site call None = unmet
called_frame stand site call (Some at) = frame_at stand site at call.arguments (body_of (kind_at stand.test.definitions at))

-- the frame of the function that a call names, with the call's arguments
abbrev pub frame_of_call : Stand → Site → Call → Outcome Frame
frame_of_call stand site call = called_frame stand site call (behaviour_meant (module_names stand.test.definitions call.name))

-- a function is entered: these items remain behind it
abbrev pub enter : Data → List Item → Frame → Outcome Data
enter own items frame = with_frames (frame ∷ (going_on items own).calls) own

-- a call of a function: its frame comes on top, and these items remain below it
abbrev pub call_function : Stand → Site → Call → Data → List Item → Act
call_function stand site call own items = acting (λ frame. continuing (enter own items frame)) (frame_of_call stand site call)

-- ---- right sides

-- a new default, the number of which is that of the activation
abbrev pub activate : ℕ → Data → List Value → Data
activate at own values = record {
  members = own.members;
  calls = own.calls;
  defaults = record { number = own.activations + 1; altstep = at; arguments = values } ∷ own.defaults;
  activations = own.activations + 1;
  children = own.children;
}

-- an activation of the altstep at a position: one too many is a dynamic error
abbrev pub activated_at : Stand → Site → Call → Data → Option ℕ → Outcome Data
activated_at stand site call own None = unmet
activated_at stand site call own (Some at) =
    outcome_and_then (λ values. if nat_lt own.activations most then Yields (activate at own values) else dynamic_error)
    (arguments (reads stand site) (parameters_of (kind_at stand.test.definitions at)) call.arguments)

-- an activation: its arguments are evaluated
abbrev pub activated : Stand → Site → Call → Data → Outcome Data
activated stand site call own = activated_at stand site call own (altstep_meant (module_names stand.test.definitions call.name))

-- one more child
abbrev pub with_child : Data → Data
with_child own = record { members = own.members; calls = own.calls; defaults = own.defaults; activations = own.activations; children = own.children + 1 }

-- the path and the type of the component that a component creates next
abbrev pub new_id : Stand → Data → ℕ → ComponentId
new_id stand own at = record { path = child_of stand.snapshot.itself own.children; component_type = at }

-- a new component, the reference of which is stored
abbrev pub create : Stand → Target → Data → ComponentId → Act
create stand target own new =
    acting (λ members. acting (λ changed. Requests (Creates (new_component stand.test new members)) (with_child changed)) (store stand.test target (value.Component new) own))
    (if nat_lt own.children most then new_members stand.test new stand.snapshot else dynamic_error)

-- a `create` of a component of the type at a position, where the name in it means a component type
abbrev pub created : Stand → Target → Data → Option ℕ → Act
created stand target own None = Errs Unmet
created stand target own (Some at) = create stand target own (new_id stand own at)

-- what stands on the right of `:=`, read at a site, where a value of a type is wanted; these are the data that it changes, in which the items behind it remain
abbrev pub assign : Stand → Site → Target → Option DataType → Data → Rhs → Act
assign stand site target wanted own (rhs.Value v) =
    acting (λ found. continuing (store stand.test target found own)) (value_wanted v (reads stand site) wanted)
assign stand site target wanted own (rhs.Create name) = created stand target own (component_meant (module_names stand.test.definitions name))
assign stand site target wanted own (rhs.Call call) = call_function stand site call own (Waiting target ∷ stand.rest)
assign stand site target wanted own (rhs.Activate call) =
    acting (λ changed. continuing (store stand.test target (value.Default changed.activations) changed)) (activated stand site call own)

-- an assignment
abbrev pub act_assignment : Stand → Site → Assignment → Act
act_assignment stand site a =
    assign stand site (target_meant stand.test site a.target) (checked.target_at (scope_at stand.test.definitions site) a.target).data_type (done stand) a.value

-- ---- declarations

-- a name that is declared, as a target
abbrev pub declared_target : Identifier → Target
declared_target name = record { own = true; reference = record { name = name; fields = [] }; data_type = None }

-- the data where a name is declared without value
abbrev pub declared : Stand → (Frame → Frame) → Data
declared stand change = with_calls (in_last change (done stand).calls) (done stand)

-- the declaration of a variable, with its initial value where one is given
abbrev pub act_initial : Stand → Site → Option DataType → Identifier → Option Rhs → Act
act_initial stand site of name None = Requests Continues (declared stand (forget name))
act_initial stand site of name (Some right) = assign stand site (declared_target name) of (declared stand (forget name)) right

-- the declaration of one variable of a type
abbrev pub act_variable : Stand → Site → Option DataType → Option Variable → Act
act_variable stand site of None = Errs Unmet
act_variable stand site of (Some v) = act_initial stand site of v.name v.value

-- the declaration of one constant of a type: its value is evaluated
abbrev pub act_constant : Stand → Site → Option DataType → Option Constant → Act
act_constant stand site of None = Errs Unmet
act_constant stand site of (Some c) = acting (λ v. Requests Continues (declared stand (declare c.name v))) (value_wanted c.value (reads stand site) of)

-- the declaration of one timer, which is inactive
abbrev pub act_timer : Stand → Option Timer → Act
act_timer stand None = Errs Unmet
act_timer stand (Some t) = Requests Continues (declared stand (declare_timer t.name))

-- the declaration of one name
abbrev pub act_name : Stand → Site → ℕ → Does → Act
act_name stand site k (Action-F.Variables vs) = act_variable stand site (resolved (scope_at stand.test.definitions site).names vs.type_name) (slice_get vs.variables k)
act_name stand site k (Action-F.For (for_start.Variables vs) condition step block) =
    act_variable stand site (resolved (scope_at stand.test.definitions site).names vs.type_name) (slice_get vs.variables k)
act_name stand site k (Action-F.Constants cs) = act_constant stand site (resolved (scope_at stand.test.definitions site).names cs.type_name) (slice_get cs.constants k)
act_name stand site k (Action-F.Timers timers) = act_timer stand (slice_get timers k)
act_name stand site k _ = Errs Unmet

-- ---- conditions and loops

-- these items remain where a condition holds, and those where it doesn't
abbrev pub go_either : Stand → List Item → List Item → Bool → Act
go_either stand held failed true = go_on stand held
go_either stand held failed false = go_on stand failed

-- a condition is tested
abbrev pub act_test : Stand → Site → Expr → List Item → List Item → Act
act_test stand site e held failed = acting (go_either stand held failed) (condition_of e (reads stand site))

-- what follows a false condition of an `if`: the rest of the chain, or the block of its `else`
abbrev pub otherwise : Stand → Site → Statement → ℕ → List Conditional → Option (List Statement) → List Item
otherwise stand site s next conditionals last =
    if nat_lt next (length conditionals) then Doing site s (From next) ∷ stand.rest else items_if_any stand.test.definitions site last ++ stand.rest

-- the first condition of those that are left: an `if` without any goes on with its `else`
abbrev pub act_conditional : Stand → Site → Statement → ℕ → List Conditional → Option (List Statement) → Option Conditional → Act
act_conditional stand site s k conditionals last None = go_on stand (items_if_any stand.test.definitions site last ++ stand.rest)
act_conditional stand site s k conditionals last (Some c) =
    act_test stand site (out-Conditional c).condition (items stand.test.definitions site (out-Conditional c).block ++ stand.rest) (otherwise stand site s (k + 1) conditionals last)

-- the conditions of an `if` from one on
abbrev pub act_if : Stand → Site → Statement → ℕ → List Conditional → Option (List Statement) → Act
act_if stand site s k conditionals last = act_conditional stand site s k conditionals last (slice_get conditionals k)

-- a loop: the block and then more, or what is behind
abbrev pub act_loop : Stand → Site → Expr → List Statement → List Item → Act
act_loop stand site condition block again =
    act_test stand site condition (items stand.test.definitions site block ++ again ++ stand.rest) stand.rest

-- ---- ends of frames

-- the first of remaining items waits for the result of a call
abbrev pub waits_first : List Item → Bool
waits_first (Waiting target ∷ items) = true
waits_first _ = false

-- nothing remains: the frame goes. In frame 1 the component terminates, and where a result is waited for it is a dynamic error
abbrev pub act_end : Stand → List Frame → Act
act_end stand [] = Requests (Stops stand.snapshot.itself.path) (with_calls [] stand.own)
act_end stand (frame ∷ frames) = if waits_first frame.remaining then Errs DynamicError else Requests Continues (with_calls (frame ∷ frames) stand.own)

-- a result goes to the target that waits for it, and is dropped where none does
abbrev pub give_back : Stand → Frame → List Frame → List Item → Option Value → Act
give_back stand frame frames (Waiting target ∷ items) (Some v) =
    continuing (store stand.test target v (going_on items (with_calls (frame ∷ frames) stand.own)))
give_back stand frame frames (Waiting target ∷ items) None = Errs Unmet
give_back stand frame frames (Doing site s part ∷ items) result = Requests Continues (with_calls (frame ∷ frames) stand.own)
give_back stand frame frames (Mark site s ∷ items) result = Requests Continues (with_calls (frame ∷ frames) stand.own)
give_back stand frame frames [] result = Requests Continues (with_calls (frame ∷ frames) stand.own)

-- the frame goes, with a result or without
abbrev pub leave : Stand → List Frame → Option Value → Act
leave stand [] result = Requests (Stops stand.snapshot.itself.path) (with_calls [] stand.own)
leave stand (frame ∷ frames) result = give_back stand frame frames frame.remaining result

-- the type of the result of the behaviour in which a site is
abbrev pub result_at : Test → Site → Option DataType
result_at test site = option_and_then (resolved (module_names test.definitions)) (result_type_of (kind_at test.definitions site.behaviour))

-- `return`: the value behind it, where there is one, is evaluated and given back as the result
abbrev pub act_return : Stand → Site → Option written.Value → Act
act_return stand site None = leave stand stand.below None
act_return stand site (Some v) = acting (λ found. leave stand stand.below (Some found)) (value_wanted v (reads stand site) (result_at stand.test site))

-- ---- components and ports

-- the component that a reference means: `null` is a dynamic error
abbrev pub component_meant_at : Stand → Site → ComponentRef → Outcome ComponentId
component_meant_at stand site reference = component_referred (reads stand site) reference

-- the type of a port of the component type at a position, if it has such a port
abbrev pub port_type : List Definition → ℕ → Identifier → Option (Option ℕ)
port_type definitions at port = port_meant (names_on definitions at port)

-- the types of messages that go through a port
abbrev pub types_at : List Definition → Bool → Option ℕ → List (Option DataType)
types_at definitions incoming None = []
types_at definitions incoming (Some at) = types_of_port (module_names definitions) incoming (kind_at definitions at)

-- these types have this one: not judged where it or one of them is unknown
abbrev pub takes : List (Option DataType) → Option DataType → Bool
takes types None = true
takes types (Some one) = list_any (agrees one) types

-- what a port of one type lists for a way is listed by a port of the other for a way, too: in (`true`) or out
abbrev pub is_covered : List Definition → Bool → Option ℕ → Bool → Option ℕ → Bool
is_covered definitions way one other_way other = list_all (takes (types_at definitions other_way other)) (types_at definitions way one)

-- what a port of one type sends a port of the other receives
abbrev pub suits : List Definition → Option ℕ → Option ℕ → Bool
suits definitions sending receiving = is_covered definitions false sending true receiving

-- ports of two types suit each other: each sends only what the other receives, and a port that isn't there suits none
abbrev pub suit_each_other : List Definition → Option (Option ℕ) → Option (Option ℕ) → Bool
suit_each_other definitions (Some one) (Some other) = suits definitions one other && suits definitions other one
suit_each_other definitions _ _ = false

-- the ports are there, aren't one, and each sends only what the other receives
abbrev pub may_connect : List Definition → ComponentId → Identifier → ComponentId → Identifier → Bool
may_connect definitions c p d q =
    suit_each_other definitions (port_type definitions c.component_type p) (port_type definitions d.component_type q) &&
    not (same_end (record { component = c.path; port = p }) (record { component = d.path; port = q }))

-- the connection of two ports is asked for: a dynamic error where they may not be connected
abbrev pub ask_connection : Stand → ComponentId → Identifier → ComponentId → Identifier → Act
ask_connection stand c p d q =
    if may_connect stand.test.definitions c p d q
    then Requests (Connects (record { component = c.path; port = p }) (record { component = d.path; port = q })) (done stand)
    else Errs DynamicError

-- `connect`: its two components are evaluated, and then the connection of their ports is asked for
abbrev pub act_connect : Stand → Site → PortRef → PortRef → Act
act_connect stand site one other =
    acting (λ c. acting (λ d. ask_connection stand c one.port d other.port) (component_meant_at stand site other.component)) (component_meant_at stand site one.component)

-- ---- mappings

-- the name of the component type whose ports are the system ports of a test case: the type behind `system`, or else the one that it runs on (9.1)
abbrev pub system_name : Option DefinitionKind → Option Identifier
system_name (Some (kind.Testcase t)) = option_or t.system (Some t.runs_on)
system_name _ = None

-- the position of that type
abbrev pub system_type : Test → ℕ
system_type test = type_said (component_named test.definitions (system_name (kind_at test.definitions test.testcase)))

-- a port and a system port of these types may be mapped: the system port passes on what the port sends, and the port receives what comes in at the system port; a port that isn't there is never mapped
abbrev pub is_mappable : List Definition → Option (Option ℕ) → Option (Option ℕ) → Bool
is_mappable definitions (Some port) (Some system_port) =
    is_covered definitions false port false system_port && is_covered definitions true system_port true port
is_mappable definitions _ _ = false

-- a port of a component may be mapped to a system port, as far as their types go
abbrev pub may_map : Test → ComponentId → Identifier → Identifier → Bool
may_map test c port system_port =
    is_mappable test.definitions (port_type test.definitions c.component_type port) (port_type test.definitions (system_type test) system_port)

-- a mapping of a port to a system port is asked for: a dynamic error where their types don't allow it
abbrev pub ask_mapping : Stand → ComponentId → Identifier → Identifier → Act
ask_mapping stand c port system_port =
    if may_map stand.test c port system_port then Requests (Maps (record { component = c.path; port = port }) system_port) (done stand)
    else Errs DynamicError

-- what is asked for where an operation on mappings is done with a port of this component
abbrev pub ask_operation : Stand → MapOperation → ComponentId → Identifier → Identifier → Act
ask_operation stand operation.Map c port system_port = ask_mapping stand c port system_port
ask_operation stand operation.Unmap c port system_port = Requests (Unmaps (record { component = c.path; port = port }) system_port) (done stand)

-- `map` and `unmap`: the component is evaluated first
abbrev pub act_map : Stand → Site → Mapping → Act
act_map stand site m =
    acting (λ c. ask_operation stand m.operation c m.port.port m.system_port) (component_meant_at stand site m.port.component)

-- ---- sends

-- the type of a message that is sent from a port of this type, where there is such a port
abbrev pub sent_at : Scope → Option (Option ℕ) → Send → Option DataType
sent_at scope None send = None
sent_at scope (Some port) send =
    type_known (type_of_message scope (passage_at scope.definitions false port).0 (passage_at scope.definitions false port).1 send.message).typing

-- the type of a message that is sent
abbrev pub sent_type : Scope → Send → Option DataType
sent_type scope send = sent_at scope (port_meant (scope.names send.port)) send

-- what is sent: a specific value
abbrev pub sent_value : Stand → Site → Send → Option DataType → Outcome Value
sent_value stand site send None = unmet
sent_value stand site send (Some of) = outcome_and_then specific_value (template_wanted send.message.template (reads stand site) (Some of))

-- the component that a message is sent to, where one is named
abbrev pub sent_to : Stand → Site → Option ComponentRef → Outcome (Option Path)
sent_to stand site None = Yields None
sent_to stand site (Some reference) = outcome_map (λ c. Some c.path) (component_meant_at stand site reference)

-- `send`: the value is evaluated first, and then who it is sent to
abbrev pub act_send : Stand → Site → Send → Act
act_send stand site send =
    acting (λ v. acting (λ to. Requests (Sends send.port to v) (done stand)) (sent_to stand site send.to))
    (sent_value stand site send (sent_type (scope_at stand.test.definitions site) send))

-- ---- starts and stops

-- `start` of a function on a component: the component is evaluated first, and then the arguments of the call
abbrev pub act_start : Stand → Site → ComponentRef → Call → Act
act_start stand site reference call =
    acting (λ c. acting (λ frame. Requests (Starts c.path frame) (done stand)) (frame_of_call stand site call)) (component_meant_at stand site reference)

-- the name in a reference to a component: `self` and `mtc` have none
abbrev pub name_in : ComponentRef → Identifier
name_in (component.Named reference) = reference.name
name_in _ = []

-- `.stop` of a timer that was found, which becomes inactive, or else of a component
abbrev pub stop_meant : Stand → Site → ComponentRef → Option Bool → Act
stop_meant stand site reference (Some _) = Requests Continues (set_timer stand.test site (name_in reference) timer.Inactive (done stand))
stop_meant stand site reference None = acting (λ c. Requests (Stops c.path) (done stand)) (component_meant_at stand site reference)

-- `.stop`, of a timer or a component
abbrev pub act_stop_of : Stand → Site → ComponentRef → Act
act_stop_of stand site reference = stop_meant stand site reference (timer_at (reads stand site) reference)

-- ---- defaults

-- the data of a component with other defaults
abbrev pub with_defaults : List ActiveDefault → Data → Data
with_defaults defaults own = record { members = own.members; calls = own.calls; defaults = defaults; activations = own.activations; children = own.children }

-- the defaults without the one that a value refers to: `null` refers to none
abbrev pub without_default : Data → Value-F Value → Outcome Data
without_default own (Value-F.Default n) = Yields (with_defaults (filter (λ d. not (nat_eq d.number n)) own.defaults) own)
without_default own Value-F.Null = Yields own
without_default own _ = unmet

-- `deactivate`: the default that a reference means goes, and without reference all go
abbrev pub act_deactivate : Stand → Site → Option Reference → Act
act_deactivate stand site None = Requests Continues (with_defaults [] (done stand))
act_deactivate stand site (Some reference) =
    continuing (outcome_and_then (λ v. without_default (done stand) (out-Value v)) (referred (reads stand site) reference))

-- ---- alts

-- the branches at an `alt`, and then those of the defaults
abbrev pub choose_from : Stand → List Written → Choice
choose_from stand written = first_choice stand.test stand.snapshot stand.own (written ++ written_defaults stand.test stand.snapshot stand.own)

-- where the branches of an `alt` are judged that stands at a site in the last frame
abbrev pub judge_at : Stand → Site → Judge
judge_at stand site = record { site = site; view = last_view stand.snapshot stand.frame }

-- what is chosen at a statement, where it is an `alt` or stands for one
abbrev pub choice_at : Stand → Site → Statement → Option Choice
choice_at stand site s =
    option_map (choose_from stand) (written_alt stand.test stand.snapshot stand.own (judge_at stand site) (out-Statement s).place (action_of s))

-- a branch was taken: the message that it received is removed from its port, where it received one
abbrev pub act_port : Option Identifier → Data → Act
act_port None own = Requests Continues own
act_port (Some port) own = Requests (Removes port) own

-- what comes of the choice at an `alt`: the component waits, the step fails, or the branch is taken
abbrev pub act_choice : Stand → Site → Statement → Choice → Act
act_choice stand site s Nothing = Waits
act_choice stand site s (Refused why) = Errs why
act_choice stand site s (Taken chance effect) =
    acting (act_port (port_taken effect)) (outcome_and_then (λ own. with_frames own.calls own) (taken stand.test site s stand.rest chance effect stand.own))

-- the choice at an `alt`, or something else where a statement is none
abbrev pub act_alt_or : Act → Stand → Site → Statement → Option Choice → Act
act_alt_or other stand site s None = other
act_alt_or other stand site s (Some choice) = act_choice stand site s choice

-- ---- statements

-- the whole of a statement
abbrev pub act_whole : Stand → Site → Statement → Does → Act
act_whole stand site s (Action-F.Variables vs) = Errs Unmet
act_whole stand site s (Action-F.Constants cs) = Errs Unmet
act_whole stand site s (Action-F.Timers timers) = Errs Unmet
act_whole stand site s (Action-F.Assign a) = act_assignment stand site a
act_whole stand site s (Action-F.«Action::Call» call) = act_alt_or (call_function stand site call stand.own stand.rest) stand site s (choice_at stand site s)
act_whole stand site s (Action-F.«Action::Event» event) = act_alt_or (Errs Unmet) stand site s (choice_at stand site s)
act_whole stand site s (Action-F.Alt branches) = act_alt_or (Errs Unmet) stand site s (choice_at stand site s)
act_whole stand site s Action-F.Repeat = continuing (repeat_alt stand.own)
act_whole stand site s (Action-F.If conditionals last) = act_if stand site s 0 conditionals last
act_whole stand site s (Action-F.While condition block) = act_loop stand site condition block (Doing site s Whole ∷ [])
act_whole stand site s (Action-F.DoWhile block condition) = go_on stand (items stand.test.definitions site block ++ Doing site s Loop ∷ stand.rest)
act_whole stand site s (Action-F.For start condition step block) =
    go_on stand (start_items stand.test.definitions site s start ++ Doing (site_in_for stand.test.definitions site start) s Loop ∷ stand.rest)
act_whole stand site s (Action-F.Return v) = act_return stand site v
act_whole stand site s Action-F.Stop = Requests (Stops stand.snapshot.itself.path) (done stand)
act_whole stand site s (Action-F.Log logged) = go_on stand stand.rest
act_whole stand site s (Action-F.Setverdict verdict reasons) = Requests (Worsens verdict) (done stand)
act_whole stand site s (Action-F.Connect one other) = act_connect stand site one other
act_whole stand site s (Action-F.Map m) = act_map stand site m
act_whole stand site s (Action-F.Send send) = act_send stand site send
act_whole stand site s (Action-F.StartComponent reference call) = act_start stand site reference call
act_whole stand site s (Action-F.StartTimer name) = Requests Continues (set_timer stand.test site name timer.Running (done stand))
act_whole stand site s (Action-F.StopOf reference) = act_stop_of stand site reference
act_whole stand site s (Action-F.Activate call) = continuing (activated stand site call (done stand))
act_whole stand site s (Action-F.Deactivate reference) = act_deactivate stand site reference

-- the assignment that a `for` begins with
abbrev pub act_for_start : Stand → Site → Does → Act
act_for_start stand site (Action-F.For (for_start.Assign a) condition step block) = act_assignment stand site a
act_for_start stand site _ = Errs Unmet

-- the assignment behind the block of a `for`
abbrev pub act_for_step : Stand → Site → Does → Act
act_for_step stand site (Action-F.For start condition step block) = act_assignment stand site step
act_for_step stand site _ = Errs Unmet

-- the `while` that a `do` or a `for` becomes
abbrev pub act_while : Stand → Site → Statement → Does → Act
act_while stand site s (Action-F.DoWhile block condition) = act_loop stand site condition block (Doing site s Loop ∷ [])
act_while stand site s (Action-F.For start condition step block) = act_loop stand site condition block (Doing site s Last ∷ Doing site s Loop ∷ [])
act_while stand site s _ = Errs Unmet

-- the conditions of an `if` from one on
abbrev pub act_from : Stand → Site → Statement → ℕ → Does → Act
act_from stand site s k (Action-F.If conditionals last) = act_if stand site s k conditionals last
act_from stand site s k _ = Errs Unmet

-- a part of a statement is done
abbrev pub act_part : Stand → Site → Statement → Part → Act
act_part stand site s Whole = act_whole stand site s (action_of s)
act_part stand site s (Name k) = act_name stand site k (action_of s)
act_part stand site s (From k) = act_from stand site s k (action_of s)
act_part stand site s Start = act_for_start stand site (action_of s)
act_part stand site s Loop = act_while stand site s (action_of s)
act_part stand site s Last = act_for_step stand site (action_of s)

-- ---- steps of a component

-- the first of the items that remain in the last frame is done: the frame ends where none remains
abbrev pub act_first : Test → Snapshot → Data → Frame → List Frame → List Item → Act
act_first test snapshot own frame below [] = act_end (record { test = test; snapshot = snapshot; own = own; frame = frame; below = below; rest = [] }) below
act_first test snapshot own frame below (Doing site s part ∷ rest) =
    act_part (record { test = test; snapshot = snapshot; own = own; frame = frame; below = below; rest = rest }) site s part
act_first test snapshot own frame below (Mark site s ∷ rest) = Errs Unmet
act_first test snapshot own frame below (Waiting target ∷ rest) = Errs Unmet

-- the step in the last of these frames: a component that runs has one
abbrev pub act_in : Test → Snapshot → Data → List Frame → Act
act_in test snapshot own [] = Errs Unmet
act_in test snapshot own (frame ∷ below) = act_first test snapshot own frame below frame.remaining

-- what a running component asks for in its step
abbrev pub act : Test → Snapshot → Data → Act
act test snapshot own = act_in test snapshot own own.calls

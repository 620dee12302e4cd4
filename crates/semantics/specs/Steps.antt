-- Steps of configurations: what a component asks for is done among all components, running timers expire, and messages come in
-- at system ports (ES 201 873-1, 12, 20 to 23, ES 201 873-4).
use Rattle.std.specs.Prelude.{ℕ, ◌+◌, Bool, true, false, ◌&&◌, ◌||◌, not, List, [], ◌∷◌, ◌++◌, length, bytes_eq, nat_eq, slice_get, Option, Some, None, is_some, if◌then◌else◌}
use Rattle.std.specs.List.{filter, flat_map, list_any}
use Rattle.std.specs.Option.{option_and_then, option_map, unwrap_or}
use Rattle.std.specs.Ordering.{is_lt, match_ordering}
use Rattle.std.specs.declared.cmp.Ordering.{Ordering}
use Rattle.std.specs.declared.cmp.Ordering.TheVariants.{Less, Greater}
use Rattle.ttcn_syntax.specs.declared.tree.statement.Verdict.{Verdict}
use Rattle.ttcn_syntax.specs.declared.tree.statement.Verdict.TheVariants as verdict
use Rattle.semantics.specs.Configurations.{Component, Configuration, Connection, Created, Data, End, Ended, Frame, Goes, Going, Message, Queue, Running, State, Terminated, component_at, end_cmp, is_running_state, is_terminated_state, overall, path_cmp, path_of, same_end, same_path, with_component, worse}
use Rattle.semantics.specs.Entries.{Entries, Identifier, put, without}
use Rattle.semantics.specs.Snapshots.{Script, Test, mtc_of, snapshot_of}
use Rattle.semantics.specs.Statements.{Act, Connects, Continues, Creates, Errs, Maps, Removes, Request, Requests, Sends, Starts, Stops, Unmaps, Waits, Worsens, act}
use Rattle.semantics.specs.Storing.{with_calls, with_members, with_timers}
use Rattle.semantics.specs.Taking.{uncovered}
pub use Rattle.step_labels.specs.declared.label.Label.{Label}
pub use Rattle.step_labels.specs.declared.label.Label.TheVariants.{Delivery, Expiry, Statement}
use Rattle.value_types.specs.Frames.{entry}
use Rattle.value_types.specs.Outcomes.{Fails, Outcome, Yields, dynamic_error, outcome_map, unmet}
use Rattle.value_types.specs.declared.frame.TimerState.{TimerState}
use Rattle.value_types.specs.declared.frame.TimerState.TheVariants as timer
use Rattle.value_types.specs.declared.path.Path.{Path}
use Rattle.value_types.specs.declared.value.ComponentId.{ComponentId}
use Rattle.value_types.specs.declared.value.Value.{Value}

-- ---- components

-- a component with other data: after its step the marks are gone that come first
abbrev pub with_data : Data → Component → Component
with_data own component = record { itself = component.itself; own = uncovered own; state = component.state; verdict = component.verdict; queues = component.queues }

-- a component in another state
abbrev pub with_state : State → Component → Component
with_state state component = record { itself = component.itself; own = component.own; state = state; verdict = component.verdict; queues = component.queues }

-- a component whose verdict is the worse one of its own and this
abbrev pub with_verdict : Verdict → Component → Component
with_verdict v component = record { itself = component.itself; own = component.own; state = component.state; verdict = worse component.verdict v; queues = component.queues }

-- the queue of a port with other messages: a component has one queue for a port
abbrev pub change_queue : Identifier → (List Message → List Message) → List Queue → List Queue
change_queue port change [] = []
change_queue port change (queue ∷ queues) = if bytes_eq queue.0 port then (queue.0, change queue.1) ∷ queues else queue ∷ change_queue port change queues

-- a change of the messages at a port
abbrev pub at_queue : Identifier → (List Message → List Message) → Component → Component
at_queue port change component = record {
  itself = component.itself;
  own = component.own;
  state = component.state;
  verdict = component.verdict;
  queues = change_queue port change component.queues;
}

-- messages without the first one
abbrev pub without_first : List Message → List Message
without_first [] = []
without_first (message ∷ messages) = messages

-- a component is left alone once it is terminated
abbrev pub unless_terminated : (Component → Component) → Component → Component
unless_terminated change component = if is_terminated_state component.state then component else change component

-- a change of the component with a path, unless it is terminated
abbrev pub touch : Going → Path → (Component → Component) → Going
touch c path change = with_component c path (unless_terminated change)

-- what a component asks for has changed its own data
abbrev pub settle : Going → Path → Data → Going
settle c path own = touch c path (with_data own)

-- ---- starts, stops and new components

-- a component comes before another
abbrev pub is_before : Component → Component → Bool
is_before one other = is_lt (path_cmp (path_of one) (path_of other))

-- a new component in its place among the others
abbrev pub insert : Component → List Component → List Component
insert new [] = new ∷ []
insert new (component ∷ components) = if is_before new component then new ∷ component ∷ components else component ∷ insert new components

-- a new component, whose path no other has
abbrev pub with_new : Component → Going → Going
with_new new c = record {
  components = if is_some (component_at c (path_of new)) then c.components else insert new c.components;
  connections = c.connections;
  mappings = c.mappings;
  delivered = c.delivered;
  forgotten = c.forgotten;
}

-- a component that begins to run, with this as its frame 1
abbrev pub begin : Frame → Component → Component
begin frame component = with_state Running (record { itself = component.itself; own = with_calls (frame ∷ []) component.own; state = component.state; verdict = component.verdict; queues = component.queues })

-- a start of a component that is in this state: a dynamic error unless it is created and not started yet
abbrev pub start_in : Going → Path → Frame → State → Outcome Going
start_in c path frame Created = Yields (touch c path (begin frame))
start_in c path frame Running = dynamic_error
start_in c path frame Terminated = dynamic_error

-- a start of the component that was found at a path
abbrev pub start_created : Going → Path → Frame → Option Component → Outcome Going
start_created c path frame None = unmet
start_created c path frame (Some component) = start_in c path frame component.state

-- a created component that did not start yet begins to run: for any other component this is a dynamic error
abbrev pub start_component : Going → Path → Frame → Outcome Going
start_component c path frame = start_created c path frame (component_at c path)

-- a test case with other mappings
abbrev pub with_mappings : Entries End → Going → Going
with_mappings mappings c = record { components = c.components; connections = c.connections; mappings = mappings; delivered = c.delivered; forgotten = c.forgotten }

-- mappings without those of the ports of the component with a path
abbrev pub without_component : Path → Entries End → Entries End
without_component path mappings = filter (λ m. not (same_path m.1.component path)) mappings

-- a component terminates: it has no mappings any more
abbrev pub terminate : Path → Going → Going
terminate path c = with_mappings (without_component path c.mappings) (touch c path (with_state Terminated))

-- the test case ends where the MTC stops, with the worst verdict of all; any other component terminates
abbrev pub stop : Test → Going → Path → Configuration
stop test c path = if same_path path (mtc_of test).path then Ended (overall c) else Goes (terminate path c)

-- ---- connections

-- two ports as a connection
abbrev pub connection : End → End → Connection
connection d e = match_ordering (end_cmp d e) (record { one = d; other = e }) (record { one = d; other = e }) (record { one = e; other = d })

-- connections by their lesser end, then by the other one
abbrev pub connection_cmp : Connection → Connection → Ordering
connection_cmp k l = match_ordering (end_cmp k.one l.one) Less (end_cmp k.other l.other) Greater

-- a connection in its place among the others; one that is there stays one
abbrev pub add_connection : Connection → List Connection → List Connection
add_connection new connections = filter (λ k. is_lt (connection_cmp k new)) connections ++ new ∷ filter (λ k. is_lt (connection_cmp new k)) connections

-- a test case in which this connection is there as well
abbrev pub with_connection : Connection → Going → Going
with_connection new c = record { components = c.components; connections = add_connection new c.connections; mappings = c.mappings; delivered = c.delivered; forgotten = c.forgotten }

-- the end that a connection has opposite to another, if it has that
abbrev pub opposite : End → Connection → List End
opposite d k = if same_end d k.one then k.other ∷ [] else if same_end d k.other then k.one ∷ [] else []

-- the ports that are connected to a port
abbrev pub peers : Going → End → List End
peers c d = flat_map (opposite d) c.connections

-- an end would be connected to two ports of one component
abbrev pub is_double : Going → End → End → Bool
is_double c d e = list_any (λ peer. same_path peer.component e.component && not (bytes_eq peer.port e.port)) (peers c d)

-- a component was found and is terminated
abbrev pub is_terminated_component : Option Component → Bool
is_terminated_component None = false
is_terminated_component (Some component) = is_terminated_state component.state

-- the component with a path is there and is terminated
abbrev pub is_terminated_at : Going → Path → Bool
is_terminated_at c path = is_terminated_component (component_at c path)

-- a port is mapped
abbrev pub is_mapped : Going → End → Bool
is_mapped c d = list_any (λ m. same_end d m.1) c.mappings

-- two ports may not be connected: a component is terminated, a port is mapped, or one of them would be connected to two ports of one component
abbrev pub is_kept_apart : Going → End → End → Bool
is_kept_apart c d e = is_terminated_at c d.component || is_terminated_at c e.component || is_mapped c d || is_mapped c e || is_double c d e || is_double c e d

-- two ports are connected: a dynamic error where they may not be
abbrev pub connect : Going → End → End → Outcome Going
connect c d e = if is_kept_apart c d e then dynamic_error else Yields (with_connection (connection d e) c)

-- ---- mappings

-- a port is connected
abbrev pub is_connected : Going → End → Bool
is_connected c d = list_any (λ k. same_end d k.one || same_end d k.other) c.connections

-- a mapping maps one of these two and not the other
abbrev pub maps_otherwise : End → Identifier → Identifier × End → Bool
maps_otherwise d system_port m = if same_end d m.1 then not (bytes_eq m.0 system_port) else bytes_eq m.0 system_port

-- a port may not be mapped to a system port: its component is terminated, it is connected, or one of the two is mapped otherwise
abbrev pub is_kept_unmapped : Going → End → Identifier → Bool
is_kept_unmapped c d system_port = is_terminated_at c d.component || is_connected c d || list_any (maps_otherwise d system_port) c.mappings

-- a port is mapped to a system port: a dynamic error where it may not be; a mapping that is there stays one
abbrev pub map_port : Going → End → Identifier → Outcome Going
map_port c d system_port =
    if is_kept_unmapped c d system_port then dynamic_error else Yields (with_mappings (put system_port d c.mappings) c)

-- this mapping goes, if it is there
abbrev pub unmap_port : Going → End → Identifier → Going
unmap_port c d system_port = with_mappings (filter (λ m. not (same_end d m.1 && bytes_eq m.0 system_port)) c.mappings) c

-- ---- messages

-- the peers that a message may go to: those of the component that is named, where one is
abbrev pub addressed : Option Path → End → Bool
addressed None e = true
addressed (Some path) e = same_path path e.component

-- a message goes behind those that wait at a port
abbrev pub put_behind : Message → End → Going → Going
put_behind message e c = touch c e.component (at_queue e.port (λ messages. messages ++ message ∷ []))

-- a message goes behind those that wait at the only one of these ends: a dynamic error where it isn't only one
abbrev pub deliver : Going → Message → List End → Outcome Going
deliver c message [] = dynamic_error
deliver c message (e ∷ []) = Yields (put_behind message e c)
deliver c message (d ∷ e ∷ ends) = dynamic_error

-- a message goes to the one peer that it may go to: a dynamic error where there is none, or more than one
abbrev pub send_to_peer : Going → ComponentId → Identifier → Option Path → Value → Outcome Going
send_to_peer c sender port to v =
    deliver c (record { value = v; sender = Some sender }) (filter (addressed to) (peers c (record { component = sender.path; port = port })))

-- a message leaves the test system: a dynamic error where a component is named
abbrev pub send_out : Going → Option Path → Outcome Going
send_out c None = Yields c
send_out c (Some path) = dynamic_error

-- a message is sent: on a mapped port it leaves the test system
abbrev pub send : Going → ComponentId → Identifier → Option Path → Value → Outcome Going
send c sender port to v =
    if is_mapped c (record { component = sender.path; port = port }) then send_out c to else send_to_peer c sender port to v

-- ---- what a component asks for

-- a test case that goes on, as a configuration, where nothing fails
abbrev pub ending : Outcome Going → Outcome Configuration
ending = outcome_map Goes

-- what a component asks for is done, where its own data are in place
abbrev pub perform : Test → Going → ComponentId → Request → Outcome Configuration
perform test c itself Continues = Yields (Goes c)
perform test c itself (Worsens v) = Yields (Goes (touch c itself.path (with_verdict v)))
perform test c itself (Removes port) = Yields (Goes (touch c itself.path (at_queue port without_first)))
perform test c itself (Sends port to v) = ending (send c itself port to v)
perform test c itself (Creates new) = Yields (Goes (with_new new c))
perform test c itself (Starts path frame) = ending (start_component c path frame)
perform test c itself (Stops path) = Yields (stop test c path)
perform test c itself (Connects d e) = ending (connect c d e)
perform test c itself (Maps d system_port) = ending (map_port c d system_port)
perform test c itself (Unmaps d system_port) = Yields (Goes (unmap_port c d system_port))

-- what a component does in its step: its own data change first, and then what it asks for is done among all components
abbrev pub apply : Test → Going → ComponentId → Act → Option (Outcome Configuration)
apply test c itself Waits = None
apply test c itself (Errs why) = Some (Fails why)
apply test c itself (Requests request own) = Some (perform test (settle c itself.path own) itself request)

-- ---- timers

-- a running timer expires, and no other
abbrev pub expire_in : Entries TimerState → Identifier → Option TimerState → Option (Entries TimerState)
expire_in timers name (Some timer.Running) = Some (put name timer.Expired timers)
expire_in timers name _ = None

-- a frame in which the timer of a name expires, where it runs
abbrev pub expired_frame : Identifier → Frame → Option Frame
expired_frame name frame = option_map (λ timers. with_timers timers frame) (expire_in frame.timers name (entry frame.timers name))

-- the frame of a number expires a timer: frames are counted from 1, the last one first in the list
abbrev pub expired_call : ℕ → Identifier → List Frame → Option (List Frame)
expired_call number name [] = None
expired_call number name (frame ∷ frames) =
    if nat_eq number (length frames + 1) then option_map (λ changed. changed ∷ frames) (expired_frame name frame)
    else option_map (λ changed. frame ∷ changed) (expired_call number name frames)

-- a timer of a frame expires: frame 0 is the component's own
abbrev pub expired : ℕ → Identifier → Data → Option Data
expired number name own =
    if nat_eq number 0 then option_map (λ members. with_members members own) (expired_frame name own.members)
    else option_map (λ calls. with_calls calls own) (expired_call number name own.calls)

-- ---- deliveries

-- the messages that come in at a system port
abbrev pub messages_at : Script → Identifier → List Value
messages_at script system_port = unwrap_or (entry script system_port) []

-- how many of them came in
abbrev pub delivered_at : Entries ℕ → Identifier → ℕ
delivered_at delivered system_port = unwrap_or (entry delivered system_port) 0

-- the message that comes in next at a system port, where one is left
abbrev pub next_message : Test → Going → Identifier → Option Value
next_message test c system_port = slice_get (messages_at test.script system_port) (delivered_at c.delivered system_port)

-- one more message came in at a system port
abbrev pub with_delivery : Identifier → Going → Going
with_delivery system_port c = record {
  components = c.components;
  connections = c.connections;
  mappings = c.mappings;
  delivered = put system_port (delivered_at c.delivered system_port + 1) c.delivered;
  forgotten = c.forgotten;
}

-- a message comes in at a system port: it goes behind those that wait at the port that is mapped to it, and no component has sent it
abbrev pub come_in : Identifier → End → Value → Going → Going
come_in system_port e v c = with_delivery system_port (put_behind (record { value = v; sender = None }) e c)

-- the delivery of the next message of a system port to the port that is mapped to it
abbrev pub delivery_step : Test → Going → Identifier → Option (Outcome Configuration)
delivery_step test c system_port =
    option_and_then (λ e. option_map (λ v. Yields (Goes (come_in system_port e v c))) (next_message test c system_port)) (entry c.mappings system_port)

-- ---- steps

-- what was found, where a component runs
abbrev pub if_running : {A : Type 0} → Component → Option A → Option A
if_running component found = if is_running_state component.state then found else None

-- the step of a component's statement
abbrev pub statement_step : Test → Going → Component → Option (Outcome Configuration)
statement_step test c component = if_running component (apply test c component.itself (act test (snapshot_of c component) component.own))

-- a component with other data, in which marks that come first stay
abbrev pub exchanged : Data → Component → Component
exchanged own component = record { itself = component.itself; own = own; state = component.state; verdict = component.verdict; queues = component.queues }

-- the expiry of a timer
abbrev pub expiry_step : Going → ℕ → Identifier → Component → Option (Outcome Configuration)
expiry_step c number name component =
    if_running component (option_map (λ own. Yields (Goes (touch c (path_of component) (exchanged own)))) (expired number name component.own))

-- the step of a label in a test case that goes on, where the label is enabled: a label is of the first remaining statement of a component, of the expiry of a timer of its frame of this number, or of a delivery at a system port
abbrev pub step_in : Test → Going → Label → Option (Outcome Configuration)
step_in test c (Statement path) = option_and_then (statement_step test c) (component_at c path)
step_in test c (Expiry path number name) = option_and_then (expiry_step c number name) (component_at c path)
step_in test c (Delivery system_port) = delivery_step test c system_port

-- the step of a label, where it has one: a test case that ended has none
abbrev pub step : Test → Configuration → Label → Option (Outcome Configuration)
step test (Ended v) label = None
step test (Goes c) label = step_in test c label

-- a step that fails ends the test case with verdict error
abbrev pub settled : Outcome Configuration → Configuration
settled (Yields c) = c
settled (Fails why) = Ended verdict.Error

-- where a label leads
abbrev pub next : Test → Configuration → Label → Option Configuration
next test c label = option_map settled (step test c label)

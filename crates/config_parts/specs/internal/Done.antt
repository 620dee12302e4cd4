-- What is done among all components, as the private functions do it.
use Rattle.std.specs.Prelude.{◌≡◌, ◌||◌, is_some, length, nat_eq, ℕ, Bool, true, false, List, [], ◌∷◌, Option, None, Some, Result, Ok, Err, if◌then◌else◌}
use Rattle.std.specs.List.{find, fold, list_any}
use Rattle.std.specs.Option.{option_map}
use Rattle.std.specs.Ordering.{is_lt}
use Rattle.ttcn_syntax.specs.declared.tree.statement.Verdict.{Verdict}
use Rattle.semantics.specs.Configurations.{path_cmp, worse}
use Rattle.config_parts.specs.internal.Changes.{begun, is_of, is_terminated_at, terminated, touch, with_message, with_own, with_queues, with_state, with_verdict, without_message}
use Rattle.config_parts.specs.internal.Ends.{add_connection, connection, is_double, peer}
use Rattle.config_parts.specs.internal.Mappings.{is_connected, is_mapped, maps_otherwise, unmap_port, with_mapping, without_component}
use Rattle.config_parts.specs.declared.act.Act.{Act}
use Rattle.config_parts.specs.declared.act.Request.{Request}
use Rattle.config_parts.specs.declared.act.Request.TheVariants as request
use Rattle.config_parts.specs.declared.component.Component.{Component}
use Rattle.config_parts.specs.declared.component.Message.{Message}
use Rattle.config_parts.specs.declared.component.State.{State}
use Rattle.config_parts.specs.declared.component.State.TheVariants as state
use Rattle.config_parts.specs.declared.config.Config.{Config}
use Rattle.config_parts.specs.declared.config.Config.TheVariants as config
use Rattle.config_parts.specs.declared.config.Going.{Going}
use Rattle.config_parts.specs.declared.connection.Connection.{Connection}
use Rattle.config_parts.specs.declared.connection.End.{End}
use Rattle.config_parts.specs.declared.connection.Links.{Links}
use Rattle.config_parts.specs.declared.frame.Data.{Data}
use Rattle.config_parts.specs.declared.frame.Frame.{Frame}
use Rattle.value_types.specs.declared.fault.Fault.{Fault}
use Rattle.value_types.specs.declared.fault.Fault.TheVariants.{Dynamic, Memory}
use Rattle.value_types.specs.declared.path.Path.{Path}
use Rattle.value_types.specs.declared.value.ComponentId.{ComponentId}
use Rattle.value_types.specs.declared.value.Value.{Value}

-- ---- what calls do: they say that what is wanted can't be had, or that memory was refused

-- a call leaves what is wanted
abbrev pub Leaves : {A : Type 0} → Option A → A → Result (Unit {0}) Fault → Type 0
Leaves wanted left (Ok done) = wanted ≡ Some left
Leaves wanted left (Err Dynamic) = wanted ≡ None
Leaves wanted left (Err Memory) = Unit {0}

-- a call answers what is wanted
abbrev pub Answers : {A : Type 0} → Option A → Result A Fault → Type 0
Answers wanted (Ok answer) = wanted ≡ Some answer
Answers wanted (Err Dynamic) = wanted ≡ None
Answers wanted (Err Memory) = Unit {0}

-- ---- messages

abbrev pub deliver : List Component → End → Message → List Component
deliver components e message = touch components e.component (with_queues (with_message e.port message))

abbrev pub send_to_peer : List Component → List Connection → ComponentId → End → Option Path → Value → Option (List Component)
send_to_peer components connections itself from to v =
    option_map (λ e. deliver components e (record { value = v; sender = Some itself })) (peer connections from to)

-- a message that leaves the test system changes nothing
abbrev pub send_out : List Component → Option Path → Option (List Component)
send_out components None = Some components
send_out components (Some path) = None

abbrev pub send_from : List Component → Links → ComponentId → End → Option Path → Value → Option (List Component)
send_from components links itself from to v =
    if is_mapped links.mappings from then send_out components to else send_to_peer components links.connections itself from to v

abbrev pub send : List Component → Links → ComponentId → ℕ → Option Path → Value → Option (List Component)
send components links itself port to v = send_from components links itself (record { component = itself.path; port = port }) to v

-- ---- starts and stops

abbrev pub is_created : State → Bool
is_created state.Created = true
is_created state.Running = false
is_created state.Terminated = false

abbrev pub start_found : List Component → Path → Frame → Option Component → Option (List Component)
start_found components path frame None = None
start_found components path frame (Some component) =
    if is_created component.state then Some (touch components path (begun frame)) else None

abbrev pub start : List Component → Path → Frame → Option (List Component)
start components path frame = start_found components path frame (find (is_of path) components)

abbrev pub overall : Verdict → List Component → Verdict
overall forgotten components = fold (λ v component. worse v component.verdict) forgotten components

-- ---- new components

abbrev pub is_before : Component → Component → Bool
is_before one other = is_lt (path_cmp one.itself.path other.itself.path)

abbrev pub insert : Component → List Component → List Component
insert new [] = new ∷ []
insert new (component ∷ components) = if is_before new component then new ∷ component ∷ components else component ∷ insert new components

abbrev pub create : List Component → Component → List Component
create components new = if is_some (find (is_of new.itself.path) components) then components else insert new components

-- ---- connections and mappings

abbrev pub is_kept_apart : List Component → Links → End → End → Bool
is_kept_apart components links d e =
    is_terminated_at components d.component || is_terminated_at components e.component || is_mapped links.mappings d || is_mapped links.mappings e ||
    is_double links.connections d e || is_double links.connections e d

abbrev pub with_connection : End → End → Links → Links
with_connection d e links = record { connections = add_connection (connection d e) links.connections; mappings = links.mappings; delivered = links.delivered }

abbrev pub connect : List Component → Links → End → End → Option Links
connect components links d e = if is_kept_apart components links d e then None else Some (with_connection d e links)

abbrev pub is_kept_unmapped : List Component → Links → End → ℕ → Bool
is_kept_unmapped components links e system_port =
    is_terminated_at components e.component || is_connected links.connections e || list_any (maps_otherwise e system_port) links.mappings

abbrev pub map_port : List Component → Links → End → ℕ → Option Links
map_port components links e system_port = if is_kept_unmapped components links e system_port then None else Some (with_mapping e system_port links)

-- ---- what a component asks for

abbrev pub going_on : List Component → Links → Verdict → Config
going_on components links forgotten = config.Going (record { components = components; links = links; forgotten = forgotten })

abbrev pub going_with : List Component → Going → Config
going_with components going = going_on components going.links going.forgotten

abbrev pub going_linked : List Component → Verdict → Links → Config
going_linked components forgotten links = going_on components links forgotten

-- the components where one has the data behind its step
abbrev pub settled : Going → Path → Data → List Component
settled going path own = touch going.components path (with_own own)

abbrev pub is_main : Path → Bool
is_main path = nat_eq (length path.numbers) 0

-- the test case ends where the MTC stops; the ports of any other component are mapped no more
abbrev pub stop : List Component → Links → Verdict → Path → Config
stop components links forgotten path =
    if is_main path then config.Ended (overall forgotten components)
    else going_on (touch components path (with_state terminated)) (without_component path links) forgotten

-- what a component asks for, where its own data are in place
abbrev pub perform : List Component → Links → Verdict → ComponentId → Request → Option Config
perform components links forgotten itself request.Continues = Some (going_on components links forgotten)
perform components links forgotten itself (request.Worsens v) = Some (going_on (touch components itself.path (with_verdict v)) links forgotten)
perform components links forgotten itself (request.Removes port) = Some (going_on (touch components itself.path (with_queues (without_message port))) links forgotten)
perform components links forgotten itself (request.Sends port to v) =
    option_map (λ others. going_on others links forgotten) (send components links itself port to v)
perform components links forgotten itself (request.Creates new) = Some (going_on (create components new) links forgotten)
perform components links forgotten itself (request.Starts path frame) =
    option_map (λ others. going_on others links forgotten) (start components path frame)
perform components links forgotten itself (request.Stops path) = Some (stop components links forgotten path)
perform components links forgotten itself (request.Connects d e) =
    option_map (going_linked components forgotten) (connect components links d e)
perform components links forgotten itself (request.Maps e system_port) =
    option_map (going_linked components forgotten) (map_port components links e system_port)
perform components links forgotten itself (request.Unmaps e system_port) = Some (going_on components (unmap_port e system_port links) forgotten)

abbrev pub apply : Going → ComponentId → Act → Option Config
apply going itself asked = perform (settled going itself.path asked.own) going.links going.forgotten itself asked.request

-- How configurations are spelled as bytes. A byte of the definitions is a number: those of the code's numbers are below 256.
use Rattle.std.specs.Prelude.{ℕ, ◌+◌, ◌*◌, ◌/◌, ◌%◌, ℤ, pos, negsuc, nat_lt, ◌&&◌, if◌then◌else◌, List, [], ◌∷◌, ◌++◌, length, map, Option, Some, None}
use Rattle.std.specs.List.{flat_map}
use Rattle.ttcn_syntax.specs.declared.tree.statement.Verdict.{Verdict}
use Rattle.ttcn_syntax.specs.declared.tree.statement.Verdict.TheVariants as verdict
use Rattle.value_types.specs.declared.frame.TimerState.{TimerState}
use Rattle.value_types.specs.declared.frame.TimerState.TheVariants as timer
use Rattle.value_types.specs.declared.path.Path.{Path}
use Rattle.value_types.specs.declared.value.ComponentId.{ComponentId}
use Rattle.value_types.specs.declared.value.Value.{Value, fold-Value}
use Rattle.value_types.specs.declared.value.Value.TheOpen.{Value-F}
use Rattle.config_parts.specs.declared.component.Component.{Component}
use Rattle.config_parts.specs.declared.component.Message.{Message}
use Rattle.config_parts.specs.declared.component.Queue.{Queue}
use Rattle.config_parts.specs.declared.component.State.{State}
use Rattle.config_parts.specs.declared.component.State.TheVariants as state
use Rattle.config_parts.specs.declared.config.Config.{Config}
use Rattle.config_parts.specs.declared.config.Config.TheVariants as config
use Rattle.config_parts.specs.declared.config.Going.{Going}
use Rattle.config_parts.specs.declared.connection.Connection.{Connection}
use Rattle.config_parts.specs.declared.connection.End.{End}
use Rattle.config_parts.specs.declared.connection.Links.{Links}
use Rattle.config_parts.specs.declared.frame.ActiveDefault.{ActiveDefault}
use Rattle.config_parts.specs.declared.frame.Cells.{Cells}
use Rattle.config_parts.specs.declared.frame.Data.{Data}
use Rattle.config_parts.specs.declared.frame.Frame.{Frame}

-- ---- numbers

-- a number in four bytes, the lowest one first: the last one takes all that is left
abbrev pub four : ℕ → List ℕ
four n = (n % 256) ∷ ((n / 256) % 256) ∷ ((n / 256 / 256) % 256) ∷ (n / 256 / 256 / 256) ∷ []

-- a number in eight bytes, its lower half first
abbrev pub eight : ℕ → List ℕ
eight n = four (n % 4294967296) ++ four (n / 4294967296)

-- a number below 63 * 256 in two bytes, of which the first is from 192 to 254
abbrev pub two : ℕ → List ℕ
two n = (192 + n / 256) ∷ (n % 256) ∷ []

-- a number below 192 in one byte, any other one in two
abbrev pub short : ℕ → List ℕ
short n = if nat_lt n 192 then n ∷ [] else two n

-- a number: where it isn't short, the byte 255 and then its wide form
abbrev pub number_in : (ℕ → List ℕ) → ℕ → List ℕ
number_in wide n = if nat_lt n 16128 then short n else 255 ∷ wide n

-- a number of 32 bits
unfoldable pub spell_number : ℕ → List ℕ
spell_number n = number_in four n

-- a number of 64 bits
unfoldable pub spell_long : ℕ → List ℕ
spell_long n = number_in eight n

-- two numbers: the first one below 15 and the second one below 16 in one byte, others behind the byte 255
abbrev pub both_in : (ℕ → List ℕ) → ℕ → ℕ → List ℕ
both_in spell a b = if nat_lt a 15 && nat_lt b 16 then (16 * a + b) ∷ [] else 255 ∷ (spell_long a ++ spell b)

-- a number of 64 bits and one of 32 bits
unfoldable pub spell_pair : ℕ → ℕ → List ℕ
spell_pair a b = both_in spell_number a b

-- two numbers of 64 bits
unfoldable pub spell_long_pair : ℕ → ℕ → List ℕ
spell_long_pair a b = both_in spell_long a b

-- bytes behind their length
unfoldable pub spell_sized : List ℕ → List ℕ
spell_sized bytes = spell_long (length bytes) ++ bytes

-- ---- lists

-- how many items there are, and then the items
unfoldable pub spell_list : {A : Type 0} → (A → List ℕ) → List A → List ℕ
spell_list spell items = spell_long (length items) ++ flat_map spell items

-- ---- values

-- an integer by a number: 0, -1, 1, -2 and so on
abbrev pub number_of : ℤ → ℕ
number_of (pos n) = 2 * n
number_of (negsuc n) = 2 * n + 1

-- an integer: where its number is below 247, the byte that is 9 more, and else the byte 0 and then its number
unfoldable pub spell_integer : ℤ → List ℕ
spell_integer z = if nat_lt (number_of z) 247 then (9 + number_of z) ∷ [] else 0 ∷ spell_long (number_of z)

-- a component that was created as this one by the main test component: where the number is below 100, the byte that is one more
abbrev pub spell_child : ℕ → List ℕ
spell_child n = if nat_lt n 100 then (1 + n) ∷ [] else 101 ∷ spell_list spell_number (n ∷ [])

-- the numbers of a path: none are the byte 0, and more than one stand behind the byte 101
abbrev pub spell_path_numbers : List ℕ → List ℕ
spell_path_numbers [] = 0 ∷ []
spell_path_numbers (n ∷ []) = spell_child n
spell_path_numbers (n ∷ m ∷ others) = 101 ∷ spell_list spell_number (n ∷ m ∷ others)

-- the name of a component: the numbers of its path
unfoldable pub spell_path : Path → List ℕ
spell_path path = spell_path_numbers path.numbers

-- a component that a reference names: its path, and then its type
unfoldable pub spell_identity : ComponentId → List ℕ
spell_identity component = spell_path component.path ++ spell_long component.component_type

-- a field without value is the byte 0, and the byte 1 stands before a value
abbrev pub spell_field : Option (List ℕ) → List ℕ
spell_field None = 0 ∷ []
spell_field (Some bytes) = 1 ∷ bytes

-- an integer, or a byte for the variant, and then what it holds
abbrev pub spell_level : Value-F (List ℕ) → List ℕ
spell_level (Value-F.Integer integer) = spell_integer integer
spell_level (Value-F.Boolean truth) = (if truth then 2 else 1) ∷ []
spell_level (Value-F.Enumerated at name) = 3 ∷ (spell_long at ++ spell_long name)
spell_level (Value-F.Record at fields) = 4 ∷ (spell_long at ++ spell_list spell_field fields)
spell_level (Value-F.Component component) = 5 ∷ spell_identity component
spell_level (Value-F.Default activation) = 6 ∷ spell_number activation
spell_level Value-F.Null = 7 ∷ []
spell_level Value-F.Omit = 8 ∷ []

-- a value, level by level
unfoldable pub spell_value : Value → List ℕ
spell_value value = fold-Value (List ℕ) spell_level value

-- ---- what components have of their own

-- a byte for the state of a timer
abbrev pub timer_code : TimerState → ℕ
timer_code timer.Inactive = 0
timer_code timer.Running = 1
timer_code timer.Expired = 2

-- the state of a timer
abbrev pub spell_timer : TimerState → List ℕ
spell_timer state = timer_code state ∷ []

-- what a slot has
abbrev pub spell_entry : {A : Type 0} → (A → List ℕ) → ℕ × A → List ℕ
spell_entry spell entry = spell_number entry.0 ++ spell entry.1

-- how many names have values and how many timers there are, then the values, and then the states of the timers
unfoldable pub spell_cells : Cells → List ℕ
spell_cells cells = spell_long_pair (length cells.values) (length cells.timers) ++ flat_map (spell_entry spell_value) cells.values ++ flat_map (spell_entry spell_timer) cells.timers

-- what remains in a frame, and then its names
unfoldable pub spell_frame : Frame → List ℕ
spell_frame frame = spell_long frame.remaining ++ spell_cells frame.cells

-- an activated default: its number, its altstep and its arguments
unfoldable pub spell_default : ActiveDefault → List ℕ
spell_default active = spell_number active.number ++ spell_long active.altstep ++ spell_list spell_value active.arguments

-- ---- components, connections and mappings

-- a byte for a verdict
abbrev pub verdict_code : Verdict → ℕ
verdict_code verdict.None = 0
verdict_code verdict.Pass = 1
verdict_code verdict.Inconc = 2
verdict_code verdict.Fail = 3
verdict_code verdict.Error = 4

-- a verdict
abbrev pub spell_verdict : Verdict → List ℕ
spell_verdict v = verdict_code v ∷ []

-- a byte for the state of a component
abbrev pub state_code : State → ℕ
state_code state.Created = 0
state_code state.Running = 1
state_code state.Terminated = 2

-- the sender of a message: where it has none, the byte 102, with which no path begins
unfoldable pub spell_sender : Option ComponentId → List ℕ
spell_sender None = 102 ∷ []
spell_sender (Some component) = spell_identity component

-- a message, and then its sender
unfoldable pub spell_message : Message → List ℕ
spell_message message = spell_value message.value ++ spell_sender message.sender

-- how many messages wait at a port and the port, and then the messages, behind their length
unfoldable pub spell_queue : Queue → List ℕ
spell_queue queue = spell_pair (length queue.messages) queue.port ++ spell_sized (flat_map spell_message queue.messages)

-- a component's port
unfoldable pub spell_end : End → List ℕ
spell_end e = spell_path e.component ++ spell_number e.port

-- the two ends of a connection
unfoldable pub spell_connection : Connection → List ℕ
spell_connection connection = spell_end connection.one ++ spell_end connection.other

-- connections, then the ports that are mapped to system ports, and then how many messages came in at system ports
unfoldable pub spell_links : Links → List ℕ
spell_links links = spell_list spell_connection links.connections ++ spell_list (spell_entry spell_end) links.mappings ++ spell_list (spell_entry spell_long) links.delivered

-- ---- configurations

-- what all components see of one: its name and its state
abbrev pub name_of : Component → ComponentId × State
name_of component = (component.itself, component.state)

-- such a name: the component's path, and then its type and its state
unfoldable pub spell_name : ComponentId × State → List ℕ
spell_name name = spell_path name.0.path ++ spell_long_pair name.0.component_type (state_code name.1)

-- what a component has of its own: its verdict and how many components it created, frame 0, the frames above, how many defaults it has and how many were activated so far, and then the defaults
unfoldable pub spell_own : Verdict → Data → List ℕ
spell_own v own =
    spell_pair (verdict_code v) own.children ++ spell_cells own.members ++ spell_list spell_frame own.calls
    ++ spell_pair (length own.defaults) own.activations ++ flat_map spell_default own.defaults

-- what only a component itself sees: what it has of its own, and then its queues, each behind its length
unfoldable pub spell_content : Component → List ℕ
spell_content component = spell_sized (spell_own component.verdict component.own) ++ spell_sized (spell_list spell_queue component.queues)

-- the contents of components, one behind the other
abbrev pub spell_contents : List Component → List ℕ
spell_contents components = flat_map spell_content components

-- what all components see: the verdict of the components that are forgotten, how ports are linked and what came in there, and the components' names
unfoldable pub spell_outline : Going → List ℕ
spell_outline going = spell_verdict going.forgotten ++ spell_links going.links ++ spell_list spell_name (map name_of going.components)

-- the byte before a test case that goes on: 2 where system ports are mapped, and else 1
abbrev pub going_code : Links → ℕ
going_code links = if nat_lt 0 (length links.mappings) then 2 else 1

-- what stands before the contents of components: that byte, how many they are, and what all of them see, behind its length
unfoldable pub spell_head : Going → List ℕ
spell_head going = going_code going.links ∷ (spell_long (length going.components) ++ spell_sized (spell_outline going))

-- a configuration: the byte 0 stands before the verdict of a test case that ended, and the head before the contents of the components of one that goes on
unfoldable pub spell_config : Config → List ℕ
spell_config (config.Ended v) = 0 ∷ spell_verdict v
spell_config (config.Going going) = spell_head going ++ spell_contents going.components

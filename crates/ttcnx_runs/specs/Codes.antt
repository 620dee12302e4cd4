-- The configuration of the code that stands for one of the rules: positions for lists of what remains to be done, slots for names.
use Rattle.std.specs.Prelude.{ℕ, zero, suc, ◌+◌, Bool, List, [], map, length, get_or, bytes_eq, if◌then◌else◌}
use Rattle.semantics.specs.Configurations as rules
use Rattle.semantics.specs.Entries.{Entries, Identifier}
use Rattle.semantics.specs.Items.{Item}
use Rattle.config_parts.specs.Names.{name_of}
use Rattle.config_parts.specs.Views.{Extent}
use Rattle.config_parts.specs.declared.component.Component.{Component}
use Rattle.config_parts.specs.declared.component.Message.{Message}
use Rattle.config_parts.specs.declared.component.Queue.{Queue}
use Rattle.config_parts.specs.declared.component.State.{State}
use Rattle.config_parts.specs.declared.component.State.TheVariants as state
use Rattle.config_parts.specs.declared.config.Config.{Config}
use Rattle.config_parts.specs.declared.config.Config.TheVariants as config
use Rattle.config_parts.specs.declared.config.Going.{Going}
use Rattle.config_parts.specs.declared.connection.Connection.{Connection}
use Rattle.config_parts.specs.declared.connection.End.{End}
use Rattle.config_parts.specs.declared.frame.ActiveDefault.{ActiveDefault}
use Rattle.config_parts.specs.declared.frame.Cells.{Cells}
use Rattle.config_parts.specs.declared.frame.Data.{Data}
use Rattle.config_parts.specs.declared.frame.Frame.{Frame}
use Rattle.ttcnx_runs.specs.SameItems.{same_items}

-- ---- positions and slots

-- the first number below a bound that passes a test, and the bound where none does
abbrev pub first_below : (ℕ → Bool) → ℕ → ℕ
first_below test zero = zero
first_below test (suc bound) = if test zero then zero else suc (first_below (λ n. test (suc n)) bound)

-- the position of a list: the first that has the same list
abbrev pub position_of : List (List Item) → List Item → ℕ
position_of lists list = first_below (λ position. same_items (get_or lists position []) list) (length lists)

-- the slot of a name: the first that has this name, also beyond the last of the names, where each name is longer than the one before
abbrev pub slot_of : List (List ℕ) → List ℕ → ℕ
slot_of names name = first_below (λ slot. bytes_eq (name_of names slot) name) (length names + length name)

-- how many lists have positions, and how many names have slots
abbrev pub size_of : List (List Item) → List (List ℕ) → Extent
size_of lists names = record { lists = length lists; names = length names }

-- ---- what a component has of its own

-- entries by the slots of their names
abbrev pub entries_code : {A : Type 0} → List (List ℕ) → Entries A → List (ℕ × A)
entries_code names entries = map (λ e. (slot_of names e.0, e.1)) entries

-- the values and timers of a frame, by slots
abbrev pub cells_code : List (List ℕ) → rules.Frame → Cells
cells_code names frame = record { values = entries_code names frame.values; timers = entries_code names frame.timers }

-- a frame with the position of what remains to be done in it
abbrev pub frame_code : List (List Item) → List (List ℕ) → rules.Frame → Frame
frame_code lists names frame = record { remaining = position_of lists frame.remaining; cells = cells_code names frame }

-- an activated default, as it is
abbrev pub default_code : rules.ActiveDefault → ActiveDefault
default_code d = record { number = d.number; altstep = d.altstep; arguments = d.arguments }

-- what a component has of its own: frame 0 has no position, since nothing remains to be done in it
abbrev pub data_code : List (List Item) → List (List ℕ) → rules.Data → Data
data_code lists names own = record {
  members = cells_code names own.members;
  calls = map (frame_code lists names) own.calls;
  defaults = map default_code own.defaults;
  activations = own.activations;
  children = own.children;
}

-- ---- components, connections and mappings

-- the state of a component
abbrev pub state_code : rules.State → State
state_code rules.Created = state.Created
state_code rules.Running = state.Running
state_code rules.Terminated = state.Terminated

-- a message, as it is
abbrev pub message_code : rules.Message → Message
message_code message = record { value = message.value; sender = message.sender }

-- the slot of a port, with the messages that wait at it
abbrev pub queue_code : List (List ℕ) → rules.Queue → Queue
queue_code names queue = record { port = slot_of names queue.0; messages = map message_code queue.1 }

-- a component
abbrev pub component_code : List (List Item) → List (List ℕ) → rules.Component → Component
component_code lists names component = record {
  itself = component.itself;
  own = data_code lists names component.own;
  state = state_code component.state;
  verdict = component.verdict;
  queues = map (queue_code names) component.queues;
}

-- a port that is connected or mapped, by its slot
abbrev pub end_code : List (List ℕ) → rules.End → End
end_code names e = record { component = e.component; port = slot_of names e.port }

-- a connection
abbrev pub connection_code : List (List ℕ) → rules.Connection → Connection
connection_code names k = record { one = end_code names k.one; other = end_code names k.other }

-- a mapping: the slot of its system port, and the port that is mapped to it
abbrev pub mapping_code : List (List ℕ) → Identifier × rules.End → ℕ × End
mapping_code names m = (slot_of names m.0, end_code names m.1)

-- ---- configurations

-- a test case that goes on
abbrev pub going_code : List (List Item) → List (List ℕ) → rules.Going → Going
going_code lists names going = record {
  components = map (component_code lists names) going.components;
  links = record {
    connections = map (connection_code names) going.connections;
    mappings = map (mapping_code names) going.mappings;
    delivered = entries_code names going.delivered;
  };
  forgotten = going.forgotten;
}

-- the configuration of the code that stands for one of the rules, where lists have these positions and names these slots
abbrev pub code_of : List (List Item) → List (List ℕ) → rules.Configuration → Config
code_of lists names (rules.Ended v) = config.Ended v
code_of lists names (rules.Goes going) = config.Going (going_code lists names going)

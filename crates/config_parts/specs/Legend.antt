-- What configurations of the code stand for among those of the rules: positions stand for lists of what remains to be done, slots for names.
use Rattle.std.specs.Prelude.{◌≡◌, ℕ, List, [], map}
use Rattle.std.specs.Ordering.{nat_cmp}
use Rattle.semantics.specs.Configurations as rules
use Rattle.semantics.specs.Entries.{Entries, Identifier, name_cmp}
use Rattle.semantics.specs.Items.{Item}
use Rattle.config_parts.specs.declared.component.Component.{Component}
use Rattle.config_parts.specs.declared.component.Message.{Message}
use Rattle.config_parts.specs.declared.component.Queue.{Queue}
use Rattle.config_parts.specs.declared.component.State.{State}
use Rattle.config_parts.specs.declared.component.State.TheVariants as state
use Rattle.config_parts.specs.declared.config.Config.{Config}
use Rattle.config_parts.specs.declared.config.Config.TheVariants as config
use Rattle.config_parts.specs.declared.config.Going.{Going}
use Rattle.config_parts.specs.declared.connection.Connection.{Connection}
use Rattle.config_parts.specs.declared.connection.End.{End}
use Rattle.config_parts.specs.declared.frame.ActiveDefault.{ActiveDefault}
use Rattle.config_parts.specs.declared.frame.Cells.{Cells}
use Rattle.config_parts.specs.declared.frame.Data.{Data}
use Rattle.config_parts.specs.declared.frame.Frame.{Frame}

-- what positions and slots stand for
pub record Legend : Type 0 where
  pub lists : ℕ → List Item
  pub names : ℕ → List ℕ

-- ---- what a component has of its own

-- entries of slots as entries of the names that the slots stand for
abbrev pub entries_by : {A : Type 0} → Legend → List (ℕ × A) → Entries A
entries_by legend entries = map (λ e. (legend.names e.0, e.1)) entries

-- a frame of which this remains
abbrev pub frame_with : Legend → List Item → Cells → rules.Frame
frame_with legend items cells = record {
  remaining = items;
  values = entries_by legend cells.values;
  timers = entries_by legend cells.timers;
}

-- what a frame stands for: its position is that of the list that remains
abbrev pub frame_by : Legend → Frame → rules.Frame
frame_by legend frame = frame_with legend (legend.lists frame.remaining) frame.cells

-- what an activated default stands for: its number, altstep and arguments as they are
abbrev pub default_by : ActiveDefault → rules.ActiveDefault
default_by d = record { number = d.number; altstep = d.altstep; arguments = d.arguments }

-- what a component's own data stand for: nothing remains to be done in frame 0
abbrev pub data_by : Legend → Data → rules.Data
data_by legend own = record {
  members = frame_with legend [] own.members;
  calls = map (frame_by legend) own.calls;
  defaults = map default_by own.defaults;
  activations = own.activations;
  children = own.children;
}

-- ---- components, connections and mappings

-- what the state of a component stands for
abbrev pub state_by : State → rules.State
state_by state.Created = rules.Created
state_by state.Running = rules.Running
state_by state.Terminated = rules.Terminated

-- what a message that waits stands for
abbrev pub message_by : Message → rules.Message
message_by message = record { value = message.value; sender = message.sender }

-- what a queue stands for: the name of its port, and its messages in their order
abbrev pub queue_by : Legend → Queue → rules.Queue
queue_by legend queue = (legend.names queue.port, map message_by queue.messages)

-- what a component stands for, with all that it has of its own
abbrev pub component_by : Legend → Component → rules.Component
component_by legend component = record {
  itself = component.itself;
  own = data_by legend component.own;
  state = state_by component.state;
  verdict = component.verdict;
  queues = map (queue_by legend) component.queues;
}

-- what a port that is connected or mapped stands for: its component, and the name of the port
abbrev pub end_by : Legend → End → rules.End
end_by legend e = record { component = e.component; port = legend.names e.port }

-- what a connection stands for
abbrev pub connection_by : Legend → Connection → rules.Connection
connection_by legend k = record { one = end_by legend k.one; other = end_by legend k.other }

-- what a mapping stands for: the name of its system port, and the port that is mapped to it
abbrev pub mapping_by : Legend → ℕ × End → Identifier × rules.End
mapping_by legend m = (legend.names m.0, end_by legend m.1)

-- ---- configurations

-- what a test case that goes on stands for
abbrev pub going_by : Legend → Going → rules.Going
going_by legend going = record {
  components = map (component_by legend) going.components;
  connections = map (connection_by legend) going.links.connections;
  mappings = map (mapping_by legend) going.links.mappings;
  delivered = entries_by legend going.links.delivered;
  forgotten = going.forgotten;
}

-- what a configuration stands for
abbrev pub config_by : Legend → Config → rules.Configuration
config_by legend (config.Ended v) = rules.Ended v
config_by legend (config.Going going) = rules.Goes (going_by legend going)

-- slots are in the order of the bytes of their names
pub record IsLegend (legend : Legend) : Type 0 where
  pub ordered : (slot other : ℕ) → name_cmp (legend.names slot) (legend.names other) ≡ nat_cmp slot other

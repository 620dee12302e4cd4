-- Configurations: the components with what each has of its own, the messages that wait at ports, the connections and the mappings (ES 201 873-1, 9, 21 and 22, ES 201 873-4).
use Rattle.std.specs.Prelude.{ℕ, Bool, true, false, ◌&&◌, List, map, Option, bytes_eq, if◌then◌else◌}
use Rattle.std.specs.List.{find, fold}
use Rattle.std.specs.Ordering.{nat_cmp, match_ordering}
use Rattle.std.specs.declared.cmp.Ordering.{Ordering}
use Rattle.std.specs.declared.cmp.Ordering.TheVariants.{Less, Greater}
use Rattle.ttcn_syntax.specs.declared.tree.statement.Verdict.{Verdict}
use Rattle.ttcn_syntax.specs.declared.tree.statement.Verdict.TheVariants as verdict
use Rattle.semantics.specs.Entries.{Entries, Identifier, name_cmp}
use Rattle.semantics.specs.Items.{Item}
pub use Rattle.step_labels.specs.Names.{path_cmp}
use Rattle.value_types.specs.declared.frame.TimerState.{TimerState}
use Rattle.value_types.specs.declared.path.Path.{Path}
use Rattle.value_types.specs.declared.value.ComponentId.{ComponentId}
use Rattle.value_types.specs.declared.value.Value.{Value}

-- ---- verdicts

-- how bad a verdict is
abbrev pub badness : Verdict → ℕ
badness verdict.None = 0
badness verdict.Pass = 1
badness verdict.Inconc = 2
badness verdict.Fail = 3
badness verdict.Error = 4

-- the worse of two verdicts
abbrev pub worse : Verdict → Verdict → Verdict
worse one other = match_ordering (nat_cmp (badness one) (badness other)) other one one

-- ---- what a component has of its own

-- what remains to be done in a frame, the values of its names, and its timers: a name without value has no entry among the values
pub record Frame : Type 0 where
  pub remaining : List Item
  pub values : Entries Value
  pub timers : Entries TimerState

-- an activated default: the number of the activation, the altstep, and its arguments
pub record ActiveDefault : Type 0 where
  pub number : ℕ
  pub altstep : ℕ
  pub arguments : List Value

-- what the statements of a component read and change of its own, beside its state, its verdict and the messages that wait for it
pub record Data : Type 0 where
  -- frame 0: the variables, constants and timers of its type
  pub members : Frame
  -- the frames above, the last one first
  pub calls : List Frame
  -- the component's defaults, the one that was activated last first, and how many were activated so far
  pub defaults : List ActiveDefault
  pub activations : ℕ
  -- how many components the component created so far
  pub children : ℕ

-- ---- components

-- the state of a component: created and not started yet, running, or terminated
pub data State : Type 0 where
  Created : State
  Running : State
  Terminated : State

-- a component in this state runs
abbrev pub is_running_state : State → Bool
is_running_state Running = true
is_running_state _ = false

-- a component in this state is terminated
abbrev pub is_terminated_state : State → Bool
is_terminated_state Terminated = true
is_terminated_state _ = false

-- a message, and the component that sent it: none did where it came in at a system port
pub record Message : Type 0 where
  pub value : Value
  pub sender : Option ComponentId

-- a port with the messages that wait at it, the one that came first in front
abbrev pub Queue : Type 0
Queue = Identifier × List Message

-- a component: its path and type, its own data, its state, its verdict, and the messages that wait at its ports
pub record Component : Type 0 where
  -- the component's path, with its type
  pub itself : ComponentId
  pub own : Data
  pub state : State
  pub verdict : Verdict
  -- the ports of its type in the order of their declaration
  pub queues : List Queue

-- the path of a component, which no other component has
abbrev pub path_of : Component → Path
path_of component = component.itself.path

-- ---- connections

-- a component's port
pub record End : Type 0 where
  pub component : Path
  pub port : Identifier

-- two ports that are connected, the lesser one first
pub record Connection : Type 0 where
  pub one : End
  pub other : End

-- two paths are equal, number by number
abbrev pub same_path : Path → Path → Bool
same_path p q = bytes_eq p.numbers q.numbers

-- ends by their component, then by the name of the port
abbrev pub end_cmp : End → End → Ordering
end_cmp d e = match_ordering (path_cmp d.component e.component) Less (name_cmp d.port e.port) Greater

-- two ends are one: the same port of the same component
abbrev pub same_end : End → End → Bool
same_end d e = same_path d.component e.component && bytes_eq d.port e.port

-- ---- configurations

-- a test case that goes on
pub record Going : Type 0 where
  -- the components by their paths, ascending
  pub components : List Component
  -- ascending
  pub connections : List Connection
  -- the system ports that are mapped, each with the port that is mapped to it
  pub mappings : Entries End
  -- how many messages came in at each system port, where any did
  pub delivered : Entries ℕ
  -- the worst verdict of the components of which nothing but their paths is left
  pub forgotten : Verdict

-- a configuration of a test case: it has ended with a verdict, or goes on
pub data Configuration : Type 0 where
  -- the test case ended with a verdict
  Ended : Verdict → Configuration
  Goes : Going → Configuration

-- the component with a path
abbrev pub component_at : Going → Path → Option Component
component_at c path = find (λ component. same_path (path_of component) path) c.components

-- a configuration in which the component with a path is another
abbrev pub with_component : Going → Path → (Component → Component) → Going
with_component c path change = record {
  components = map (λ component. if same_path (path_of component) path then change component else component) c.components;
  connections = c.connections;
  mappings = c.mappings;
  delivered = c.delivered;
  forgotten = c.forgotten;
}

-- the worst of the verdicts of all components
abbrev pub overall : Going → Verdict
overall c = fold (λ v component. worse v component.verdict) c.forgotten c.components

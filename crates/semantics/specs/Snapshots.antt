-- Snapshots, and what is read at a site (ES 201 873-1, 20.2 and 21.3).
use Rattle.std.specs.Prelude.{ℕ, Bool, false, ◌&&◌, not, List, [], ◌∷◌, map, Option, Some, None, if◌then◌else◌}
use Rattle.std.specs.List.{find, list_any}
use Rattle.std.specs.Option.{option_map}
use Rattle.ttcn_syntax.specs.declared.tree.definition.Definition.{Definition}
use Rattle.semantics.specs.Configurations.{Component, Data, Frame, Going, Message, Queue, State, is_running_state, is_terminated_state, path_of, same_path}
use Rattle.semantics.specs.Entries.{Entries, Identifier}
use Rattle.semantics.specs.Sites.{Site, runs_on}
use Rattle.std.specs.Prelude.{is_some}
use Rattle.check_rules.specs.Limits.{longest_chain}
use Rattle.value_types.specs.Chains.{within_chains}
use Rattle.value_types.specs.Frames.{is_running, seen_entry}
use Rattle.value_types.specs.Outcomes.{or_error, unmet}
use Rattle.value_types.specs.Readings.{Reading}
use Rattle.value_types.specs.declared.frame.TimerState.{TimerState}
use Rattle.value_types.specs.declared.path.Path.{Path}
use Rattle.value_types.specs.declared.value.ComponentId.{ComponentId}
use Rattle.value_types.specs.declared.value.Value.{Value}

-- what a script stands for at the system ports of a test case: the messages that come in at each, the first one in front
abbrev pub Script : Type 0
Script = Entries (List Value)

-- a test case of a module, which runs with a script: the module's definitions, and the position of the test case among them
pub record Test : Type 0 where
  pub definitions : List Definition
  pub testcase : ℕ
  pub script : Script

-- the position of the component type that a behaviour runs on; each test case says it
abbrev pub type_said : Option ℕ → ℕ
type_said None = 0
type_said (Some at) = at

-- the component that runs the test case: its path has no numbers
abbrev pub mtc_of : Test → ComponentId
mtc_of test = record { path = record { numbers = [] }; component_type = type_said (runs_on test.definitions test.testcase) }

-- ---- snapshots

-- what a component sees at an `alt`: the first message at each of its ports, its timers, and the states of all components
pub record Snapshot : Type 0 where
  -- the component that takes the snapshot
  pub itself : ComponentId
  pub fronts : List (Identifier × Option Message)
  -- the timers of the component's last frame, and those of its type: no others can be read at an `alt`
  pub timers : Entries TimerState
  pub member_timers : Entries TimerState
  pub states : List (Path × State)

-- the first of the messages that wait at a port, if any waits
abbrev pub front_of : List Message → Option Message
front_of [] = None
front_of (message ∷ messages) = Some message

-- the name of a port with the first message that waits at it
abbrev pub front_at : Queue → Identifier × Option Message
front_at queue = (queue.0, front_of queue.1)

-- the timers of the last frame
abbrev pub timers_of : List Frame → Entries TimerState
timers_of [] = []
timers_of (frame ∷ frames) = frame.timers

-- the snapshot of a component
abbrev pub snapshot_of : Going → Component → Snapshot
snapshot_of c component = record {
  itself = component.itself;
  fronts = map front_at component.queues;
  timers = timers_of component.own.calls;
  member_timers = component.own.members.timers;
  states = map (λ other. (path_of other, other.state)) c.components;
}

-- ---- components in a snapshot

-- the state of the component with a path, if a snapshot has such a component
abbrev pub state_of : Snapshot → Path → Option State
state_of snapshot path = option_map (λ entry. entry.1) (find (λ entry. same_path entry.0 path) snapshot.states)

-- a component was found, and this is true of its state
abbrev pub holds : (State → Bool) → Option State → Bool
holds is None = false
holds is (Some state) = is state

-- a component runs
abbrev pub runs_in : Snapshot → Path → Bool
runs_in snapshot path = holds is_running_state (state_of snapshot path)

-- a component is terminated
abbrev pub is_terminated_in : Snapshot → Path → Bool
is_terminated_in snapshot path = holds is_terminated_state (state_of snapshot path)

-- another component than the one with a path runs
abbrev pub others_run : Snapshot → Path → Bool
others_run snapshot path = list_any (λ entry. is_running_state entry.1 && not (same_path entry.0 path)) snapshot.states

-- ---- readings

-- the names of a frame that are seen: their values, and the timers as a snapshot has them
pub record View : Type 0 where
  pub values : Entries Value
  pub timers : Entries TimerState

-- what is seen of frame 0 in a behaviour: nothing where it doesn't say on what it runs
abbrev pub seen_members : Test → Site → View → View
seen_members test site members = if is_some (runs_on test.definitions site.behaviour) then members else record { values = []; timers = [] }

-- what two views say of a name, the inner one first
abbrev pub facts_of : Test → ComponentId → Snapshot → View → View → Reading
facts_of test itself snapshot inner outer = record {
  definitions = test.definitions;
  names = λ name. or_error (seen_entry inner.values outer.values name);
  timers = λ name. option_map is_running (seen_entry inner.timers outer.timers name);
  running = runs_in snapshot;
  itself = itself;
  mtc = mtc_of test;
  constants = λ at item. unmet;
  templates = λ at values. unmet;
}

-- frame 0, with the timers as a snapshot has them
abbrev pub members_in : Snapshot → Data → View
members_in snapshot own = record { values = own.members.values; timers = snapshot.member_timers }

-- what is read at a site in a frame of which this is seen
abbrev pub reading_in : Test → Snapshot → Data → Site → View → Reading
reading_in test snapshot own site view = within_chains longest_chain (facts_of test snapshot.itself snapshot view (seen_members test site (members_in snapshot own)))

-- what is seen of the last frame
abbrev pub last_view : Snapshot → Frame → View
last_view snapshot frame = record { values = frame.values; timers = snapshot.timers }

-- what is seen of an altstep's frame: its arguments
abbrev pub view_of_arguments : Entries Value → View
view_of_arguments values = record { values = values; timers = [] }

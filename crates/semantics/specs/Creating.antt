-- New components: the ports of their type, and its variables, constants and timers in frame 0 (ES 201 873-1, 6.2.10, 8.4 and 21.3.1).
use Rattle.std.specs.Prelude.{ℕ, ◌+◌, List, [], ◌∷◌, ◌++◌, map, Option, Some, None}
use Rattle.std.specs.List.{flat_map}
use Rattle.ttcn_syntax.specs.declared.tree.definition.Definition.{Definition}
use Rattle.ttcn_syntax.specs.declared.tree.definition.Member.{Member}
use Rattle.ttcn_syntax.specs.declared.tree.definition.Member.TheVariants as member
use Rattle.ttcn_syntax.specs.declared.tree.statement.Verdict.TheVariants as verdict
use Rattle.ttcn_syntax.specs.declared.tree.value.Value.{Value}
use Rattle.check_scope.specs.Names.{kind_at, members_of, module_names, resolved}
use Rattle.check_scope.specs.declared.types.DataType.{DataType}
use Rattle.semantics.specs.Configurations.{Component, Created, Data, Frame, Queue}
use Rattle.semantics.specs.Entries.{Identifier}
use Rattle.semantics.specs.Snapshots.{Snapshot, Test, facts_of}
use Rattle.semantics.specs.Storing.{declare, declare_timer, forget}
use Rattle.check_rules.specs.Limits.{longest_chain}
use Rattle.value_types.specs.Chains.{within_chains}
use Rattle.value_types.specs.Literals.{value_wanted}
use Rattle.value_types.specs.Outcomes.{Outcome, Yields, outcome_and_then, outcome_map}
use Rattle.value_types.specs.Readings.{Reading}
use Rattle.value_types.specs.declared.path.Path.{Path}
use Rattle.value_types.specs.declared.value.ComponentId.{ComponentId}

-- ---- ports

-- the names of the ports that a member of a component type declares
abbrev pub ports_of : Member → List Identifier
ports_of (member.Ports port_type ports) = ports
ports_of (member.Constants cs) = []
ports_of (member.Variables of variables) = []
ports_of (member.Timers timers) = []

-- the ports of the component type at a position, no message at any
abbrev pub empty_queues : List Definition → ℕ → List Queue
empty_queues definitions at = map (λ name. (name, [])) (flat_map ports_of (members_of (kind_at definitions at)))

-- ---- frame 0

-- a frame in which nothing remains to be done and nothing is declared
abbrev pub empty_frame : Frame
empty_frame = record { remaining = []; values = []; timers = [] }

-- what is read in the values of members: those before
abbrev pub reading_of_members : Test → ComponentId → Snapshot → Frame → Reading
reading_of_members test itself snapshot frame =
    within_chains longest_chain (facts_of test itself snapshot (record { values = frame.values; timers = frame.timers }) (record { values = []; timers = [] }))

-- a frame behind several declarations, one behind the other
abbrev pub declared_in_turn : {A : Type 0} → (Frame → A → Outcome Frame) → List A → Frame → Outcome Frame
declared_in_turn declared [] frame = Yields frame
declared_in_turn declared (a ∷ others) frame = outcome_and_then (declared_in_turn declared others) (declared frame a)

-- a name with its value of a type
abbrev pub declared_with : Test → ComponentId → Snapshot → Option DataType → Frame → Identifier → Value → Outcome Frame
declared_with test itself snapshot of frame name v =
    outcome_map (λ found. declare name found frame) (value_wanted v (reading_of_members test itself snapshot frame) of)

-- a frame behind the declaration of a variable of a type: the name has no value where none is given
abbrev pub declared_variable : Test → ComponentId → Snapshot → Option DataType → Frame → Identifier → Option Value → Outcome Frame
declared_variable test itself snapshot of frame name None = Yields (forget name frame)
declared_variable test itself snapshot of frame name (Some v) = declared_with test itself snapshot of frame name v

-- a frame behind the declarations of one member of a component type; ports declare nothing in it
abbrev pub declared_member : Test → ComponentId → Snapshot → Frame → Member → Outcome Frame
declared_member test itself snapshot frame (member.Ports port_type ports) = Yields frame
declared_member test itself snapshot frame (member.Constants cs) =
    declared_in_turn (λ f c. declared_with test itself snapshot (resolved (module_names test.definitions) cs.type_name) f c.name c.value) cs.constants frame
declared_member test itself snapshot frame (member.Variables of variables) =
    declared_in_turn (λ f v. declared_variable test itself snapshot (resolved (module_names test.definitions) of) f v.name v.value) variables frame
declared_member test itself snapshot frame (member.Timers timers) = declared_in_turn (λ f t. Yields (declare_timer t.name f)) timers frame

-- frame 0 of a new component: its members in their order
abbrev pub new_members : Test → ComponentId → Snapshot → Outcome Frame
new_members test itself snapshot =
    declared_in_turn (declared_member test itself snapshot) (members_of (kind_at test.definitions itself.component_type)) empty_frame

-- ---- components

-- the data of a new component with this frame 0: it has no other frames, defaults or children
abbrev pub new_data : Frame → Data
new_data members = record { members = members; calls = []; defaults = []; activations = 0; children = 0 }

-- a new component, which is created and doesn't run yet
abbrev pub new_component : Test → ComponentId → Frame → Component
new_component test itself members = record {
  itself = itself;
  own = new_data members;
  state = Created;
  verdict = verdict.None;
  queues = empty_queues test.definitions itself.component_type;
}

-- the name of the next component that a component creates
abbrev pub child_of : ComponentId → ℕ → Path
child_of itself children = record { numbers = itself.path.numbers ++ (children + 1) ∷ [] }

-- Steps that change one component and nothing else, and what they depend on (ES 201 873-1, 20.2, ES 201 873-4).
use Rattle.std.specs.Prelude.{◌≡◌, ℕ, zero, suc, Bool, true, false, slice_get, List, [], ◌∷◌, ◌++◌, map, Option, Some, None, if◌then◌else◌}
use Rattle.std.specs.Option.{option_map}
use Rattle.ttcn_syntax.specs.declared.tree.statement.Verdict.{Verdict}
use Rattle.semantics.specs.Configurations.{Component, Data, End, Goes, Going, Message, Queue, State, path_cmp, path_of, same_path}
use Rattle.semantics.specs.Entries.{Identifier}
use Rattle.semantics.specs.Labels.{labels_of_component}
use Rattle.semantics.specs.LiveParts.{husk, live_going, live_part}
use Rattle.semantics.specs.Order.{Ascends}
use Rattle.semantics.specs.Runs.{option_elim}
use Rattle.semantics.specs.Snapshots.{Test, front_at, snapshot_of}
use Rattle.semantics.specs.Statements.{Act, Continues, Removes, Request, Requests, Stops, Worsens, act}
use Rattle.semantics.specs.Steps.{Delivery, Expiry, Label, Statement, at_queue, change_queue, exchanged, expired, if_running, next, with_data, with_verdict, without_first}
use Rattle.semantics.specs.Telling.{request_of_component}
use Rattle.value_types.specs.declared.path.Path.{Path}
use Rattle.value_types.specs.declared.value.ComponentId.{ComponentId}

-- ---- what is seen

-- what other components see of one: its name and its state
abbrev pub outside_of : Component → ComponentId × State
outside_of x = (x.itself, x.state)

-- in two test cases the same is seen of all components
abbrev pub LookAlike : Going → Going → Type 0
LookAlike c d = map outside_of c.components ≡ map outside_of d.components

-- two components have the same, and the same message comes first at each of their ports
pub record SeeAlike (x y : Component) : Type 0 where
  pub itself : x.itself ≡ y.itself
  pub own : x.own ≡ y.own
  pub state : x.state ≡ y.state
  pub verdict : x.verdict ≡ y.verdict
  pub fronts : map front_at x.queues ≡ map front_at y.queues

-- ---- steps of a component alone

-- what is asked for changes nothing but the component that asks
abbrev pub is_own_request : Request → Bool
is_own_request Continues = true
is_own_request (Worsens v) = true
is_own_request (Removes port) = true
is_own_request _ = false

-- the step of an enabled label changes nothing but the component that it is of
abbrev pub steps_alone : Test → Going → Component → Label → Bool
steps_alone test c x (Statement path) = option_elim false is_own_request (request_of_component test c x)
steps_alone test c x (Expiry path number name) = true
steps_alone test c x (Delivery system_port) = false

-- what changes of a component in a step that changes nothing else
abbrev pub change_by : Act → Option (Component → Component)
change_by (Requests Continues own) = Some (with_data own)
change_by (Requests (Worsens v) own) = Some (λ x. with_verdict v (with_data own x))
change_by (Requests (Removes port) own) = Some (λ x. at_queue port without_first (with_data own x))
change_by _ = None

-- the change of a component by the step of a label, where the step changes nothing else
abbrev pub change_alone : Test → Going → Component → Label → Option (Component → Component)
change_alone test c x (Statement path) = if_running x (change_by (act test (snapshot_of c x) x.own))
change_alone test c x (Expiry path number name) = if_running x (option_map exchanged (expired number name x.own))
change_alone test c x (Delivery system_port) = None

-- a label is of a component
abbrev pub IsOf : Component → Label → Type 0
IsOf x (Statement path) = path ≡ path_of x
IsOf x (Expiry path number name) = path ≡ path_of x
IsOf x (Delivery system_port) = ⊥

-- whether a label is of the component with a path
abbrev pub is_of_path : Path → Label → Bool
is_of_path path (Statement of) = same_path of path
is_of_path path (Expiry of number name) = same_path of path
is_of_path path (Delivery system_port) = false

-- the port whose first message goes, where one does by what is asked for
abbrev pub removed_by : Option Request → Option Identifier
removed_by (Some (Removes port)) = Some port
removed_by _ = None

-- the port whose first message goes by the step of a label
abbrev pub removed_at : Test → Going → Component → Label → Option Identifier
removed_at test c x (Statement path) = removed_by (request_of_component test c x)
removed_at test c x (Expiry path number name) = None
removed_at test c x (Delivery system_port) = None

-- queues without the first message of a port, where there is a port
abbrev pub without_front : Option Identifier → List Queue → List Queue
without_front None queues = queues
without_front (Some port) queues = change_queue port without_first queues

-- a component with other data, with this verdict, and without the first message of a port
abbrev pub becoming : Data → Verdict → Option Identifier → Component → Component
becoming own v removed x = record { itself = x.itself; own = own; state = x.state; verdict = v; queues = without_front removed x.queues }

-- ---- components that have labels

-- whether there are some
abbrev pub are_some : List Label → Bool
are_some [] = false
are_some (label ∷ labels) = true

-- whether a component has enabled labels
abbrev pub has_labels : Test → Going → Component → Bool
has_labels test c x = are_some (labels_of_component test c x)

-- how many of some are of a kind
abbrev pub how_many : {A : Type 0} → (A → Bool) → List A → ℕ
how_many is [] = 0
how_many is (x ∷ xs) = if is x then suc (how_many is xs) else how_many is xs

-- ---- one component of several

-- a list with something else at a place
abbrev pub exchanged_at : {A : Type 0} → ℕ → A → List A → List A
exchanged_at at a [] = []
exchanged_at zero a (x ∷ xs) = a ∷ xs
exchanged_at (suc at) a (x ∷ xs) = x ∷ exchanged_at at a xs

-- a test case with another component at a place
abbrev pub with_component_at : ℕ → Component → Going → Going
with_component_at at x c = record {
  components = exchanged_at at x c.components;
  connections = c.connections;
  mappings = c.mappings;
  delivered = c.delivered;
  forgotten = c.forgotten;
}

-- the components of a test case stand in the order of their paths, and nothing of it is left to forget
pub record IsLive (c : Going) : Type 0 where
  pub ordered : Ascends (λ one other. path_cmp (path_of one) (path_of other)) c.components
  pub live : live_going c ≡ c

-- wherever a component sees what it sees here, the step of a label makes this of it, and changes nothing else
abbrev pub StepsAlone : Test → Going → Component → Label → Data → Verdict → Option Identifier → Type 0
StepsAlone test c x label own v removed =
    (d : Going) (y : Component) (at : ℕ) → LookAlike c d → SeeAlike x y → IsLive d → slice_get d.components at ≡ Some y
    → option_map live_part (next test (Goes d) label) ≡ Some (Goes (with_component_at at (becoming own v removed y) d))

-- ---- a message for another component

-- in two test cases ports are connected and mapped alike
pub record LinkAlike (c d : Going) : Type 0 where
  pub connections : c.connections ≡ d.connections
  pub mappings : c.mappings ≡ d.mappings

-- a port is one of the component at a place, which is another component than the sender
pub record IsReceiver (c : Going) (sender : Component) (to : ℕ) (receiver : Component) (e : End) : Type 0 where
  pub there : slice_get c.components to ≡ Some receiver
  pub path : path_of receiver ≡ e.component
  pub apart : same_path (path_of receiver) (path_of sender) ≡ false

-- a component at one of whose ports a message comes to wait behind the others
abbrev pub receiving : Identifier → Message → Component → Component
receiving port m = at_queue port (λ messages. messages ++ m ∷ [])

-- wherever a component sees what it sees here, and ports are linked alike, the step of a label makes this of it, puts a message behind those at a port of the component at a place, and changes nothing else
abbrev pub SendsAlone : Test → Going → Component → Label → Data → Verdict → ℕ → Identifier → Message → Type 0
SendsAlone test c x label own v to port m =
    (d : Going) (y : Component) (at : ℕ) (w : Component) → LookAlike c d → LinkAlike c d → SeeAlike x y → IsLive d → slice_get d.components at ≡ Some y → slice_get d.components to ≡ Some w
    → option_map live_part (next test (Goes d) label) ≡ Some (Goes (with_component_at to (receiving port m w) (with_component_at at (becoming own v None y) d)))

-- ---- a component that ends

-- two test cases have the same connections, mappings and deliveries, and have forgotten the same verdict
pub record AllAlike (c d : Going) : Type 0 where
  pub connections : c.connections ≡ d.connections
  pub mappings : c.mappings ≡ d.mappings
  pub delivered : c.delivered ≡ d.delivered
  pub forgotten : c.forgotten ≡ d.forgotten

-- the component with a path is asked to stop
abbrev pub is_stop_of : Path → Request → Bool
is_stop_of path (Stops of) = same_path of path
is_stop_of path _ = false

-- a component ends by the step of a label: it asks to stop itself
abbrev pub ends_itself : Test → Going → Component → Label → Bool
ends_itself test c x (Statement path) = option_elim false (is_stop_of (path_of x)) (request_of_component test c x)
ends_itself test c x (Expiry path number name) = false
ends_itself test c x (Delivery system_port) = false

-- a test case with another component at a place, and all but the components as in another test case
abbrev pub joined_with : ℕ → Component → Going → Going → Going
joined_with at z e d = record {
  components = exchanged_at at z d.components;
  connections = e.connections;
  mappings = e.mappings;
  delivered = e.delivered;
  forgotten = e.forgotten;
}

-- wherever a component sees what it sees here, and all but the components is alike, the step of a label leaves a husk of the component at its place, leads to connections, mappings, deliveries and a forgotten verdict as here, and leaves the other components
abbrev pub EndsAlone : Test → Going → Component → Label → ℕ → Going → Type 0
EndsAlone test c x label at e =
    (d : Going) (y : Component) → LookAlike c d → AllAlike c d → SeeAlike x y → IsLive d → slice_get d.components at ≡ Some y
    → option_map live_part (next test (Goes d) label) ≡ Some (Goes (joined_with at (husk (path_of x)) e d))

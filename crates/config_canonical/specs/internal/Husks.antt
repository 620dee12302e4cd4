-- The canonical form of a configuration, as the private functions make it.
use Rattle.std.specs.Prelude.{ℕ, Bool, true, false, ◌&&◌, not, nat_eq, List, [], length, map, Option, Some, None, if◌then◌else◌}
use Rattle.std.specs.List.{filter, find, fold}
use Rattle.ttcn_syntax.specs.declared.tree.statement.Verdict.{Verdict}
use Rattle.ttcn_syntax.specs.declared.tree.statement.Verdict.TheVariants as verdict
use Rattle.semantics.specs.Configurations as rules
use Rattle.semantics.specs.Configurations.{same_path}
use Rattle.config_parts.specs.declared.component.Component.{Component}
use Rattle.config_parts.specs.declared.component.State.{State}
use Rattle.config_parts.specs.declared.component.State.TheVariants as state
use Rattle.config_parts.specs.declared.config.Going.{Going}
use Rattle.config_parts.specs.declared.connection.Connection.{Connection}
use Rattle.config_parts.specs.declared.connection.Links.{Links}
use Rattle.config_parts.specs.declared.frame.Data.{Data}
use Rattle.value_types.specs.declared.path.Path.{Path}

abbrev pub badness : Verdict → ℕ
badness = rules.badness

abbrev pub worse : Verdict → Verdict → Verdict
worse = rules.worse

abbrev pub is_terminated : State → Bool
is_terminated state.Created = false
is_terminated state.Running = false
is_terminated state.Terminated = true

abbrev pub is_over : Component → Bool
is_over component = is_terminated component.state

abbrev pub is_over_if_any : Option Component → Bool
is_over_if_any None = false
is_over_if_any (Some component) = is_over component

abbrev pub is_terminated_at : List Component → Path → Bool
is_terminated_at components path = is_over_if_any (find (λ component. same_path component.itself.path path) components)

abbrev pub is_live : List Component → Connection → Bool
is_live components k = not (is_terminated_at components k.one.component && is_terminated_at components k.other.component)

abbrev pub is_dead : List Component → Connection → Bool
is_dead components k = not (is_live components k)

abbrev pub live_connections : List Component → List Connection → List Connection
live_connections components connections = filter (is_live components) connections

-- all mappings stay, and how many messages came in
abbrev pub live_links : List Component → Links → Links
live_links components links = record { connections = live_connections components links.connections; mappings = links.mappings; delivered = links.delivered }

abbrev pub forget : Verdict → Component → Verdict
forget v component = if is_over component then worse v component.verdict else v

abbrev pub forgotten : Verdict → List Component → Verdict
forgotten v components = fold forget v components

abbrev pub husk : Path → Component
husk path = record {
  itself = record { path = path; component_type = 0 };
  own = record { members = record { values = []; timers = [] }; calls = []; defaults = []; activations = 0; children = 0 };
  state = state.Terminated;
  verdict = verdict.None;
  queues = [];
}

abbrev pub is_none : Verdict → Bool
is_none verdict.None = true
is_none verdict.Pass = false
is_none verdict.Inconc = false
is_none verdict.Fail = false
is_none verdict.Error = false

-- nothing is left of what a component has of its own
abbrev pub is_new : Data → Bool
is_new own = nat_eq (length own.members.values) 0 && nat_eq (length own.members.timers) 0 && nat_eq (length own.calls) 0 && nat_eq (length own.defaults) 0 && nat_eq own.activations 0 && nat_eq own.children 0

-- nothing but its path and its state are left of a component
abbrev pub is_bare : Component → Bool
is_bare component = nat_eq component.itself.component_type 0 && is_none component.verdict && nat_eq (length component.queues) 0 && is_new component.own

-- a component is terminated, and more than its path is left
abbrev pub has_remains : Component → Bool
has_remains component = is_over component && not (is_bare component)

abbrev pub live_component : Component → Component
live_component component = if is_over component then husk component.itself.path else component

abbrev pub live_components : List Component → List Component
live_components components = map live_component components

abbrev pub live_going : Going → Going
live_going going = record {
  components = live_components going.components;
  links = live_links going.components going.links;
  forgotten = forgotten going.forgotten going.components;
}

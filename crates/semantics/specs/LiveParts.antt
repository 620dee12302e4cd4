-- The part of a configuration that matters for what follows: two configurations are the same where it is equal (ES 201 873-4).
use Rattle.std.specs.Prelude.{Bool, ◌&&◌, not, [], map, if◌then◌else◌}
use Rattle.std.specs.List.{filter, fold}
use Rattle.ttcn_syntax.specs.declared.tree.statement.Verdict.{Verdict}
use Rattle.ttcn_syntax.specs.declared.tree.statement.Verdict.TheVariants as verdict
use Rattle.semantics.specs.Configurations.{Component, Configuration, Connection, Ended, Goes, Going, Terminated, is_terminated_state, path_of, worse}
use Rattle.semantics.specs.Creating.{empty_frame, new_data}
use Rattle.semantics.specs.Steps.{is_terminated_at}
use Rattle.value_types.specs.declared.path.Path.{Path}

-- a terminated component of which only the path is left
abbrev pub husk : Path → Component
husk path = record {
  itself = record { path = path; component_type = 0 };
  own = new_data empty_frame;
  state = Terminated;
  verdict = verdict.None;
  queues = [];
}

-- a component as far as it matters: of a terminated one only its path
abbrev pub live_component : Component → Component
live_component component = if is_terminated_state component.state then husk (path_of component) else component

-- the verdict of a terminated component joins those that are forgotten
abbrev pub forget_verdict : Verdict → Component → Verdict
forget_verdict v component = if is_terminated_state component.state then worse v component.verdict else v

-- a connection stays unless both its components are terminated
abbrev pub is_live : Going → Connection → Bool
is_live c k = not (is_terminated_at c k.one.component && is_terminated_at c k.other.component)

-- a test case that goes on, with its terminated components as husks and the connections that are live
abbrev pub live_going : Going → Going
live_going c = record {
  components = map live_component c.components;
  connections = filter (is_live c) c.connections;
  mappings = c.mappings;
  delivered = c.delivered;
  forgotten = fold forget_verdict c.forgotten c.components;
}

-- the live part: of a test case that ended it is the verdict
abbrev pub live_part : Configuration → Configuration
live_part (Ended v) = Ended v
live_part (Goes c) = Goes (live_going c)

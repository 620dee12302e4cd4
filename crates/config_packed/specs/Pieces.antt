-- The bytes of a configuration that goes on, in parts: what tells what a component does, and what is put in place of the bytes of one.
use Rattle.std.specs.Prelude.{◌≡◌, ℕ, nat_lt, Bool, List, [], ◌∷◌, ◌++◌, length, map, get_or, Option, Some, None}
use Rattle.std.specs.Option.{option_to_list}
use Rattle.ttcn_syntax.specs.declared.tree.statement.Verdict.{Verdict}
use Rattle.config_parts.specs.declared.component.Component.{Component}
use Rattle.config_parts.specs.declared.component.Message.{Message}
use Rattle.config_parts.specs.declared.component.Queue.{Queue}
use Rattle.config_parts.specs.declared.config.Config.{Config}
use Rattle.config_parts.specs.declared.config.Config.TheVariants as config
use Rattle.config_parts.specs.declared.config.Going.{Going}
use Rattle.config_parts.specs.declared.connection.Links.{Links}
use Rattle.config_parts.specs.declared.frame.Data.{Data}
use Rattle.config_parts.specs.internal.Changes.{changed_at, with_queues}
use Rattle.config_packed.specs.Spelling.{name_of, spell_head, spell_list, spell_long, spell_outline, spell_own, spell_queue}
use Rattle.config_packed.specs.declared.pieces.ComponentBytes.{ComponentBytes}
use Rattle.config_packed.specs.declared.pieces.ConfigBytes.{ConfigBytes}

-- ---- parts

-- the bytes of a component: those of what it has of its own, and those of its queues
abbrev pub bytes_of : ComponentBytes → List ℕ × List ℕ
bytes_of component = (component.own.now, component.queues.now)

-- the bytes that spell these
abbrev pub spelled_parts : Component → List ℕ × List ℕ
spelled_parts component = (spell_own component.verdict component.own, spell_list spell_queue component.queues)

-- whether system ports are mapped
abbrev pub has_mappings : Links → Bool
has_mappings links = nat_lt 0 (length links.mappings)

-- the parts of the bytes of a configuration that goes on
pub record IsCut (going : Going) (parts : ConfigBytes) : Type 0 where
  pub head : parts.head.now ≡ spell_head going
  pub outline : parts.outline.now ≡ spell_outline going
  pub components : map bytes_of parts.components.items ≡ map spelled_parts going.components
  pub mappings : parts.has_mappings ≡ has_mappings going.links

-- a test case that ended has no parts
abbrev pub AreParts : Config → Option ConfigBytes → Type 0
AreParts (config.Ended v) None = Unit {0}
AreParts (config.Ended v) (Some parts) = ⊥
AreParts (config.Going going) None = ⊥
AreParts (config.Going going) (Some parts) = IsCut going parts

-- ---- what a component sees

-- the first of messages
abbrev pub first_message : List Message → Option Message
first_message [] = None
first_message (message ∷ messages) = Some message

-- a port, and the message that waits there in front of the others
abbrev pub front_at : Queue → ℕ × Option Message
front_at queue = (queue.port, first_message queue.messages)

-- a port and the message in front, as a queue with at most one message
unfoldable pub spell_front : ℕ × Option Message → List ℕ
spell_front front = spell_queue (record { port = front.0; messages = option_to_list front.1 })

-- what a component sees, which is at this place: what all see, its place, what it has of its own, and the message in front of each of its queues
unfoldable pub spell_key : Going → ℕ → Component → List ℕ
spell_key going at component = spell_outline going ++ spell_long at ++ spell_own component.verdict component.own ++ spell_list spell_front (map front_at component.queues)

-- all components see the same of two configurations
pub record ShareOutline (g h : Going) : Type 0 where
  pub forgotten : g.forgotten ≡ h.forgotten
  pub links : g.links ≡ h.links
  pub names : map name_of g.components ≡ map name_of h.components

-- a component of one configuration sees what a component of another one sees
pub record SeeTheSame (g h : Going) (at i : ℕ) (c d : Component) : Type 0 where
  pub outline : ShareOutline g h
  pub place : at ≡ i
  pub verdict : c.verdict ≡ d.verdict
  pub own : c.own ≡ d.own
  pub fronts : map front_at c.queues ≡ map front_at d.queues

-- ---- messages in front

-- a queue in which only the message in front of the others is left
abbrev pub shortened_queue : Queue → Queue
shortened_queue queue = record { port = queue.port; messages = option_to_list (first_message queue.messages) }

-- a component in whose queues only these messages are left
abbrev pub shortened_component : Component → Component
shortened_component = with_queues (map shortened_queue)

-- a configuration in whose queues only these messages are left
abbrev pub shortened_going : Going → Going
shortened_going going = record {
  components = map shortened_component going.components;
  links = going.links;
  forgotten = going.forgotten;
}

-- ---- changes

-- a component with another verdict and other data
abbrev pub with_verdict_and_own : Verdict → Data → Component → Component
with_verdict_and_own v own c = record { itself = c.itself; own = own; state = c.state; verdict = v; queues = c.queues }

-- the component at a place has another verdict and other data, and that at a place other queues
abbrev pub changed_going : Going → ℕ → Verdict → Data → ℕ → List Queue → Going
changed_going going at v own behind queues = record {
  components = changed_at (changed_at going.components at (with_verdict_and_own v own)) behind (with_queues (λ old. queues));
  links = going.links;
  forgotten = going.forgotten;
}

-- a configuration and its bytes in parts, bytes of what a component has of its own, and bytes of queues
abbrev pub AreSpelled : Config → ConfigBytes → List ℕ → List ℕ → Type 0
AreSpelled c parts own queues =
    ((going : Going) × (c ≡ config.Going going) × IsCut going parts) × ((v : Verdict) × ((d : Data) × (own ≡ spell_own v d))) × ((qs : List Queue) × (queues ≡ spell_list spell_queue qs))

-- the component at a place, and what all components see, are those of another configuration; where that has no component there, all components stay
abbrev pub joined_going : Going → ℕ → Going → Going
joined_going going at other = record {
  components = changed_at going.components at (λ old. get_or other.components at old);
  links = other.links;
  forgotten = other.forgotten;
}

-- the components then have, in their order, the names and states of those of the other configuration
abbrev pub AreJoined : Going → ℕ → Going → Type 0
AreJoined going at other = map name_of (joined_going going at other).components ≡ map name_of other.components

-- Configurations of the code that `==` finds equal are one.
use Rattle.std.proofs.Common.{◌≡◌, ℕ, Bool, true, true≢false, ◌&&◌, nat_eq, sym, ap}
use Rattle.std.proofs.lemmas.Bool.{and_parts}
use Rattle.syntax_equality.specs.Equality.{IsOne, list_one, number_one, option_one}
use Rattle.syntax_equality.specs.Parts.{verdict_one}
use Rattle.value_types.specs.Values.{equal}
use Rattle.config_parts.specs.contracts.component.ComponentPartialEq.TheImpl as components
use Rattle.config_parts.specs.contracts.component.MessagePartialEq.TheImpl as messages
use Rattle.config_parts.specs.contracts.component.QueuePartialEq.TheImpl as queues
use Rattle.config_parts.specs.contracts.component.State.{the_type as state_type}
use Rattle.config_parts.specs.contracts.component.StatePartialEq.TheImpl as states
use Rattle.config_parts.specs.contracts.config.ConfigEq.TheImpl.Laws as config_laws
use Rattle.config_parts.specs.contracts.config.ConfigPartialEq.TheImpl as configs
use Rattle.config_parts.specs.contracts.config.GoingPartialEq.TheImpl as goings
use Rattle.config_parts.specs.contracts.connection.ConnectionPartialEq.TheImpl as connections
use Rattle.config_parts.specs.contracts.connection.EndPartialEq.TheImpl as ends
use Rattle.config_parts.specs.contracts.connection.LinksPartialEq.TheImpl as linked
use Rattle.config_parts.specs.contracts.frame.ActiveDefaultPartialEq.TheImpl as defaults
use Rattle.config_parts.specs.contracts.frame.CellsPartialEq.TheImpl as cells
use Rattle.config_parts.specs.contracts.frame.DataPartialEq.TheImpl as data_of
use Rattle.config_parts.specs.contracts.frame.FramePartialEq.TheImpl as frames
use Rattle.config_parts.specs.declared.component.Component.{Component}
use Rattle.config_parts.specs.declared.component.Message.{Message}
use Rattle.config_parts.specs.declared.component.Queue.{Queue}
use Rattle.config_parts.specs.declared.component.State.{State}
use Rattle.config_parts.specs.declared.config.Config.{Config}
use Rattle.config_parts.specs.declared.config.Config.TheVariants as config
use Rattle.config_parts.specs.declared.config.Going.{Going}
use Rattle.config_parts.specs.declared.connection.Connection.{Connection}
use Rattle.config_parts.specs.declared.connection.End.{End}
use Rattle.config_parts.specs.declared.connection.Links.{Links}
use Rattle.config_parts.specs.declared.frame.ActiveDefault.{ActiveDefault}
use Rattle.config_parts.specs.declared.frame.Cells.{Cells}
use Rattle.config_parts.specs.declared.frame.Data.{Data}
use Rattle.config_parts.specs.declared.frame.Frame.{Frame}
use Rattle.ttcnx_runs.specs.SameConfigurations.{identity_one, path_one, same_timer, timer_one, value_one}
use denote.Enum.Bare.{same_true}

-- `==` on configurations of the code
abbrev pub equal_configs : Config → Config → Bool
equal_configs = (configs.ghosts).eq

-- ---- what components have of their own

entry_one : {A : Type 0} (same : A → A → Bool) → ((a b : A) → same a b ≡ true → a ≡ b) → (a b : ℕ × A) → (nat_eq a.0 b.0 && same a.1 b.1) ≡ true → a ≡ b
entry_one same one a b h = let p = and_parts _ _ h in λ i. (number_one a.0 b.0 p.0 i, one a.1 b.1 p.1 i)

cells_one : (a : Cells) → IsOne Cells (cells.ghosts).eq a
cells_one a b h =
    let p = and_parts _ _ h in
    λ i. record { values = list_one _ (entry_one equal value_one) a.values b.values p.0 i; timers = list_one _ (entry_one same_timer timer_one) a.timers b.timers p.1 i }

frame_one : (a : Frame) → IsOne Frame (frames.ghosts).eq a
frame_one a b h = let p = and_parts _ _ h in λ i. record { remaining = number_one a.remaining b.remaining p.0 i; cells = cells_one a.cells b.cells p.1 i }

default_one : (a : ActiveDefault) → IsOne ActiveDefault (defaults.ghosts).eq a
default_one a b h =
    let p = and_parts _ _ h in
    let q = and_parts _ _ p.1 in
    λ i. record {
      number = number_one a.number b.number p.0 i;
      altstep = number_one a.altstep b.altstep q.0 i;
      arguments = list_one _ value_one a.arguments b.arguments q.1 i;
    }

data_one : (a : Data) → IsOne Data (data_of.ghosts).eq a
data_one a b h =
    let p = and_parts _ _ h in
    let q = and_parts _ _ p.1 in
    let r = and_parts _ _ q.1 in
    let s = and_parts _ _ r.1 in
    λ i. record {
      members = cells_one a.members b.members p.0 i;
      calls = list_one _ frame_one a.calls b.calls q.0 i;
      defaults = list_one _ default_one a.defaults b.defaults r.0 i;
      activations = number_one a.activations b.activations s.0 i;
      children = number_one a.children b.children s.1 i;
    }

-- ---- components

state_one : (a : State) → IsOne State (states.ghosts).eq a
state_one = same_true state_type _

message_one : (a : Message) → IsOne Message (messages.ghosts).eq a
message_one a b h = let p = and_parts _ _ h in λ i. record { value = value_one a.value b.value p.0 i; sender = option_one _ identity_one a.sender b.sender p.1 i }

queue_one : (a : Queue) → IsOne Queue (queues.ghosts).eq a
queue_one a b h = let p = and_parts _ _ h in λ i. record { port = number_one a.port b.port p.0 i; messages = list_one _ message_one a.messages b.messages p.1 i }

component_one : (a : Component) → IsOne Component (components.ghosts).eq a
component_one a b h =
    let p = and_parts _ _ h in
    let q = and_parts _ _ p.1 in
    let r = and_parts _ _ q.1 in
    let s = and_parts _ _ r.1 in
    λ i. record {
      itself = identity_one a.itself b.itself p.0 i;
      own = data_one a.own b.own q.0 i;
      state = state_one a.state b.state r.0 i;
      verdict = verdict_one a.verdict b.verdict s.0 i;
      queues = list_one _ queue_one a.queues b.queues s.1 i;
    }

-- ---- connections and mappings

end_one : (a : End) → IsOne End (ends.ghosts).eq a
end_one a b h = let p = and_parts _ _ h in λ i. record { component = path_one a.component b.component p.0 i; port = number_one a.port b.port p.1 i }

connection_one : (a : Connection) → IsOne Connection (connections.ghosts).eq a
connection_one a b h = let p = and_parts _ _ h in λ i. record { one = end_one a.one b.one p.0 i; other = end_one a.other b.other p.1 i }

links_one : (a : Links) → IsOne Links (linked.ghosts).eq a
links_one a b h =
    let p = and_parts _ _ h in
    let q = and_parts _ _ p.1 in
    λ i. record {
      connections = list_one _ connection_one a.connections b.connections p.0 i;
      mappings = list_one _ (entry_one (ends.ghosts).eq end_one) a.mappings b.mappings q.0 i;
      delivered = list_one _ (entry_one nat_eq number_one) a.delivered b.delivered q.1 i;
    }

-- ---- configurations

going_one : (a : Going) → IsOne Going (goings.ghosts).eq a
going_one a b h =
    let p = and_parts _ _ h in
    let q = and_parts _ _ p.1 in
    λ i. record {
      components = list_one _ component_one a.components b.components p.0 i;
      links = links_one a.links b.links q.0 i;
      forgotten = verdict_one a.forgotten b.forgotten q.1 i;
    }

pub config_one : (a b : Config) → equal_configs a b ≡ true → a ≡ b
config_one (config.Ended v) (config.Ended w) h = ap config.Ended (verdict_one v w h)
config_one (config.Going a) (config.Going b) h = ap config.Going (going_one a b h)
config_one (config.Ended v) (config.Going b) h = absurd (true≢false (sym h))
config_one (config.Going a) (config.Ended w) h = absurd (true≢false (sym h))

pub config_itself : (a : Config) → equal_configs a a ≡ true
config_itself = config_laws.laws-law.refl

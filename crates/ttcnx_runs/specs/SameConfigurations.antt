-- When configurations of the rules are the same: a test, which finds each configuration in itself alone.
use Rattle.std.proofs.Common.{◌≡◌, ℕ, Bool, true, false, true≢false, ◌&&◌, List, bytes_eq, nat_eq, refl, sym, ap, subst}
use Rattle.std.proofs.lemmas.Bool.{and_parts}
use Rattle.std.specs.Cmp.{IsEquivalence, IsPartialEquivalence, decided, partial_equiv_from_equiv}
use Rattle.std.specs.Cmp.Lexicographic.{nat_list_eq_equiv, pointwise}
use Rattle.std.specs.Option.{option_eq}
use Rattle.ttcn_syntax.specs.contracts.tree.statement.VerdictEq.TheImpl.Laws as verdict_laws
use Rattle.ttcn_syntax.specs.contracts.tree.statement.VerdictPartialEq.TheImpl as verdicts
use Rattle.ttcn_syntax.specs.declared.tree.statement.Verdict.{Verdict}
use Rattle.value_types.proofs.Equality.{equal_values}
use Rattle.value_types.specs.Values.{equal}
use Rattle.value_types.specs.contracts.frame.TimerState.{the_type as timer_type}
use Rattle.value_types.specs.contracts.frame.TimerStateEq.TheImpl.Laws as timer_laws
use Rattle.value_types.specs.contracts.frame.TimerStatePartialEq.TheImpl as timers
use Rattle.value_types.specs.declared.frame.TimerState.{TimerState}
use Rattle.value_types.specs.declared.path.Path.{Path}
use Rattle.value_types.specs.declared.value.ComponentId.{ComponentId}
use Rattle.value_types.specs.declared.value.Value.{Value}
use Rattle.syntax_equality.specs.Equality.{list_one, name_one, number_one, option_one}
use Rattle.syntax_equality.specs.Parts.{verdict_one}
use Rattle.semantics.specs.Configurations.{ActiveDefault, Component, Configuration, Connection, Created, Data, End, Ended, Frame, Goes, Going, Message, Queue, Running, State, Terminated, same_path}
use Rattle.semantics.specs.Entries.{Entries}
use Rattle.ttcnx_runs.specs.SameItems.{items_itself, items_one, list_itself, number_itself, option_itself, same_items}
use denote.Enum.Bare.{same_true}

-- entries are the same: one by one they have the same names, and the same by a test on what names have
abbrev pub same_entries : {A : Type 0} → (A → A → Bool) → Entries A → Entries A → Bool
same_entries same = pointwise (λ a b. bytes_eq a.0 b.0 && same a.1 b.1)

-- the states of timers are the same
abbrev pub same_timer : TimerState → TimerState → Bool
same_timer = (timers.ghosts).eq

-- verdicts are the same
abbrev pub same_verdict : Verdict → Verdict → Bool
same_verdict = (verdicts.ghosts).eq

-- the paths of components are the same, and their types
abbrev pub same_identity : ComponentId → ComponentId → Bool
same_identity a b = same_path a.path b.path && nat_eq a.component_type b.component_type

-- frames are the same
abbrev pub same_frame : Frame → Frame → Bool
same_frame a b = same_items a.remaining b.remaining && (same_entries equal a.values b.values && same_entries same_timer a.timers b.timers)

-- activated defaults are the same
abbrev pub same_default : ActiveDefault → ActiveDefault → Bool
same_default a b = nat_eq a.number b.number && (nat_eq a.altstep b.altstep && pointwise equal a.arguments b.arguments)

-- what components have of their own is the same
abbrev pub same_data : Data → Data → Bool
same_data a b =
    same_frame a.members b.members &&
    (pointwise same_frame a.calls b.calls &&
    (pointwise same_default a.defaults b.defaults &&
    (nat_eq a.activations b.activations &&
    nat_eq a.children b.children)))

-- the states of components are the same
abbrev pub same_state : State → State → Bool
same_state Created Created = true
same_state Running Running = true
same_state Terminated Terminated = true
same_state _ _ = false

-- messages are the same
abbrev pub same_message : Message → Message → Bool
same_message a b = equal a.value b.value && option_eq same_identity a.sender b.sender

-- ports are the same, and the messages that wait at them
abbrev pub same_queue : Queue → Queue → Bool
same_queue a b = bytes_eq a.0 b.0 && pointwise same_message a.1 b.1

-- components are the same
abbrev pub same_component : Component → Component → Bool
same_component a b =
    same_identity a.itself b.itself &&
    (same_data a.own b.own &&
    (same_state a.state b.state &&
    (same_verdict a.verdict b.verdict &&
    pointwise same_queue a.queues b.queues)))

-- ports that are connected or mapped are the same
abbrev pub same_end : End → End → Bool
same_end a b = same_path a.component b.component && bytes_eq a.port b.port

-- connections are the same
abbrev pub same_connection : Connection → Connection → Bool
same_connection a b = same_end a.one b.one && same_end a.other b.other

-- test cases that go on are the same
abbrev pub same_going : Going → Going → Bool
same_going a b =
    pointwise same_component a.components b.components &&
    (pointwise same_connection a.connections b.connections &&
    (same_entries same_end a.mappings b.mappings &&
    (same_entries nat_eq a.delivered b.delivered &&
    same_verdict a.forgotten b.forgotten)))

-- configurations are the same
abbrev pub same_configuration : Configuration → Configuration → Bool
same_configuration (Ended v) (Ended w) = same_verdict v w
same_configuration (Goes a) (Goes b) = same_going a b
same_configuration _ _ = false

-- ---- names, entries, values, verdicts and states of timers

pub name_itself : (name : List ℕ) → bytes_eq name name ≡ true
name_itself = nat_list_eq_equiv.refl

module _ {A : Type 0} (same : A → A → Bool) where
  entry_one : ((a b : A) → same a b ≡ true → a ≡ b) → (a b : List ℕ × A) → (bytes_eq a.0 b.0 && same a.1 b.1) ≡ true → a ≡ b
  entry_one one a b h = let p = and_parts _ _ h in λ i. (name_one a.0 b.0 p.0 i, one a.1 b.1 p.1 i)

  entries_one : ((a b : A) → same a b ≡ true → a ≡ b) → (a b : Entries A) → same_entries same a b ≡ true → a ≡ b
  entries_one one = list_one (λ a b. bytes_eq a.0 b.0 && same a.1 b.1) (entry_one one)

  entries_itself : ((a : A) → same a a ≡ true) → (a : Entries A) → same_entries same a a ≡ true
  entries_itself itself = list_itself (λ a b. bytes_eq a.0 b.0 && same a.1 b.1) (λ a i. name_itself a.0 i && itself a.1 i)

pub value_one : (a b : Value) → equal a b ≡ true → a ≡ b
value_one a b = (equal_values a b).0

pub value_itself : (a : Value) → equal a a ≡ true
value_itself a = (equal_values a a).1 refl

pub timer_one : (a b : TimerState) → same_timer a b ≡ true → a ≡ b
timer_one = same_true timer_type _

pub path_one : (a b : Path) → same_path a b ≡ true → a ≡ b
path_one a b h = λ i. record { numbers = name_one a.numbers b.numbers h i }

pub identity_one : (a b : ComponentId) → same_identity a b ≡ true → a ≡ b
identity_one a b h =
    let p = and_parts _ _ h in
    λ i. record { path = path_one a.path b.path p.0 i; component_type = number_one a.component_type b.component_type p.1 i }

identity_itself : (a : ComponentId) → same_identity a a ≡ true
identity_itself a = λ i. name_itself a.path.numbers i && number_itself a.component_type i

-- ---- what components have of their own

frame_one : (a b : Frame) → same_frame a b ≡ true → a ≡ b
frame_one a b h =
    let p = and_parts _ _ h in
    let q = and_parts _ _ p.1 in
    λ i. record {
      remaining = items_one a.remaining b.remaining p.0 i;
      values = entries_one equal value_one a.values b.values q.0 i;
      timers = entries_one same_timer timer_one a.timers b.timers q.1 i;
    }

frame_itself : (a : Frame) → same_frame a a ≡ true
frame_itself a = λ i. items_itself a.remaining i && (entries_itself equal value_itself a.values i && entries_itself same_timer timer_laws.laws-law.refl a.timers i)

default_one : (a b : ActiveDefault) → same_default a b ≡ true → a ≡ b
default_one a b h =
    let p = and_parts _ _ h in
    let q = and_parts _ _ p.1 in
    λ i. record {
      number = number_one a.number b.number p.0 i;
      altstep = number_one a.altstep b.altstep q.0 i;
      arguments = list_one equal value_one a.arguments b.arguments q.1 i;
    }

default_itself : (a : ActiveDefault) → same_default a a ≡ true
default_itself a = λ i. number_itself a.number i && (number_itself a.altstep i && list_itself equal value_itself a.arguments i)

data_one : (a b : Data) → same_data a b ≡ true → a ≡ b
data_one a b h =
    let p = and_parts _ _ h in
    let q = and_parts _ _ p.1 in
    let r = and_parts _ _ q.1 in
    let s = and_parts _ _ r.1 in
    λ i. record {
      members = frame_one a.members b.members p.0 i;
      calls = list_one same_frame frame_one a.calls b.calls q.0 i;
      defaults = list_one same_default default_one a.defaults b.defaults r.0 i;
      activations = number_one a.activations b.activations s.0 i;
      children = number_one a.children b.children s.1 i;
    }

data_itself : (a : Data) → same_data a a ≡ true
data_itself a =
    λ i. frame_itself a.members i &&
    (list_itself same_frame frame_itself a.calls i &&
    (list_itself same_default default_itself a.defaults i &&
    (number_itself a.activations i &&
    number_itself a.children i)))

-- ---- components

state_one : (a b : State) → same_state a b ≡ true → a ≡ b
state_one Created Created h = refl
state_one Running Running h = refl
state_one Terminated Terminated h = refl
state_one _ _ h = absurd (true≢false (sym h))

state_itself : (a : State) → same_state a a ≡ true
state_itself Created = refl
state_itself Running = refl
state_itself Terminated = refl

message_one : (a b : Message) → same_message a b ≡ true → a ≡ b
message_one a b h = let p = and_parts _ _ h in λ i. record { value = value_one a.value b.value p.0 i; sender = option_one same_identity identity_one a.sender b.sender p.1 i }

message_itself : (a : Message) → same_message a a ≡ true
message_itself a = λ i. value_itself a.value i && option_itself same_identity identity_itself a.sender i

queue_one : (a b : Queue) → same_queue a b ≡ true → a ≡ b
queue_one a b h = let p = and_parts _ _ h in λ i. (name_one a.0 b.0 p.0 i, list_one same_message message_one a.1 b.1 p.1 i)

queue_itself : (a : Queue) → same_queue a a ≡ true
queue_itself a = λ i. name_itself a.0 i && list_itself same_message message_itself a.1 i

component_one : (a b : Component) → same_component a b ≡ true → a ≡ b
component_one a b h =
    let p = and_parts _ _ h in
    let q = and_parts _ _ p.1 in
    let r = and_parts _ _ q.1 in
    let s = and_parts _ _ r.1 in
    λ i. record {
      itself = identity_one a.itself b.itself p.0 i;
      own = data_one a.own b.own q.0 i;
      state = state_one a.state b.state r.0 i;
      verdict = verdict_one a.verdict b.verdict s.0 i;
      queues = list_one same_queue queue_one a.queues b.queues s.1 i;
    }

component_itself : (a : Component) → same_component a a ≡ true
component_itself a =
    λ i. identity_itself a.itself i &&
    (data_itself a.own i &&
    (state_itself a.state i &&
    (verdict_laws.laws-law.refl a.verdict i &&
    list_itself same_queue queue_itself a.queues i)))

-- ---- connections

end_one : (a b : End) → same_end a b ≡ true → a ≡ b
end_one a b h = let p = and_parts _ _ h in λ i. record { component = path_one a.component b.component p.0 i; port = name_one a.port b.port p.1 i }

end_itself : (a : End) → same_end a a ≡ true
end_itself a = λ i. name_itself a.component.numbers i && name_itself a.port i

connection_one : (a b : Connection) → same_connection a b ≡ true → a ≡ b
connection_one a b h = let p = and_parts _ _ h in λ i. record { one = end_one a.one b.one p.0 i; other = end_one a.other b.other p.1 i }

connection_itself : (a : Connection) → same_connection a a ≡ true
connection_itself a = λ i. end_itself a.one i && end_itself a.other i

-- ---- configurations

going_one : (a b : Going) → same_going a b ≡ true → a ≡ b
going_one a b h =
    let p = and_parts _ _ h in
    let q = and_parts _ _ p.1 in
    let r = and_parts _ _ q.1 in
    let s = and_parts _ _ r.1 in
    λ i. record {
      components = list_one same_component component_one a.components b.components p.0 i;
      connections = list_one same_connection connection_one a.connections b.connections q.0 i;
      mappings = entries_one same_end end_one a.mappings b.mappings r.0 i;
      delivered = entries_one nat_eq number_one a.delivered b.delivered s.0 i;
      forgotten = verdict_one a.forgotten b.forgotten s.1 i;
    }

going_itself : (a : Going) → same_going a a ≡ true
going_itself a =
    λ i. list_itself same_component component_itself a.components i &&
    (list_itself same_connection connection_itself a.connections i &&
    (entries_itself same_end end_itself a.mappings i &&
    (entries_itself nat_eq number_itself a.delivered i &&
    verdict_laws.laws-law.refl a.forgotten i)))

pub configuration_one : (c d : Configuration) → same_configuration c d ≡ true → c ≡ d
configuration_one (Ended v) (Ended w) h = ap Ended (verdict_one v w h)
configuration_one (Goes a) (Goes b) h = ap Goes (going_one a b h)
configuration_one _ _ h = absurd (true≢false (sym h))

pub configuration_itself : (c : Configuration) → same_configuration c c ≡ true
configuration_itself (Ended v) = verdict_laws.laws-law.refl v
configuration_itself (Goes a) = going_itself a

pub same_configuration_equiv : IsEquivalence same_configuration
same_configuration_equiv = decided same_configuration (λ c d. (configuration_one c d, λ is. subst (λ x. same_configuration c x ≡ true) is (configuration_itself c)))

pub same_configuration_laws : IsPartialEquivalence same_configuration
same_configuration_laws = partial_equiv_from_equiv same_configuration_equiv

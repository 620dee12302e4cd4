-- What is told of a step: the statement that it begins with, what is asked for, and the message that is sent or comes in, with where it goes (ES 201 873-1, 21.1 and 22.2).
use Rattle.std.specs.Prelude.{List, [], ◌∷◌, Option, Some, None, if◌then◌else◌}
use Rattle.std.specs.List.{filter, find}
use Rattle.std.specs.Option.{option_and_then, option_map}
use Rattle.semantics.specs.Configurations.{Component, Configuration, End, Ended, Goes, Going, component_at, same_end}
use Rattle.ttcn_syntax.specs.declared.place.Span.{Span}
use Rattle.semantics.specs.Entries.{Identifier}
use Rattle.semantics.specs.Places.{place_of}
use Rattle.semantics.specs.Snapshots.{Test, snapshot_of}
use Rattle.semantics.specs.Statements.{Act, Request, Requests, Sends, act}
use Rattle.semantics.specs.Steps.{Delivery, Expiry, Label, Statement, addressed, if_running, is_terminated_at, next_message, peers}
use Rattle.value_types.specs.Frames.{entry}
use Rattle.value_types.specs.declared.path.Path.{Path}
use Rattle.value_types.specs.declared.value.ComponentId.{ComponentId}
use Rattle.value_types.specs.declared.value.Value.{Value}

-- ---- where a message goes

-- where a message goes
pub data Way : Type 0 where
  -- behind those that wait at a port
  Reaches : End → Way
  -- nowhere: the component of the port that it is meant for is terminated
  Lost : End → Way
  -- out of the test system, by a system port
  Leaves : Identifier → Way

-- the only one of some
abbrev pub lone : {A : Type 0} → List A → Option A
lone [] = None
lone (a ∷ []) = Some a
lone (a ∷ b ∷ others) = None

-- the only port that a message may go to from a port, and to a component where one is named
abbrev pub only_peer : Going → End → Option Path → Option End
only_peer c d to = lone (filter (addressed to) (peers c d))

-- the system port to which a port is mapped
abbrev pub mapped_to : Going → End → Option Identifier
mapped_to c d = option_map (λ m. m.0) (find (λ m. same_end d m.1) c.mappings)

-- where a message goes that is meant for a port
abbrev pub way_to : Going → End → Way
way_to c e = if is_terminated_at c e.component then Lost e else Reaches e

-- a message leaves the test system where no component is named
abbrev pub way_out : Identifier → Option Path → Option Way
way_out system_port None = Some (Leaves system_port)
way_out system_port (Some path) = None

-- where a message goes from a port that is mapped to a system port, or to none
abbrev pub way_mapped : Going → End → Option Path → Option Identifier → Option Way
way_mapped c d to (Some system_port) = way_out system_port to
way_mapped c d to None = option_map (way_to c) (only_peer c d to)

-- where a message goes from a port: nowhere where sending it is a dynamic error
abbrev pub way_from : Going → End → Option Path → Option Way
way_from c d to = way_mapped c d to (mapped_to c d)

-- ---- the message of a step

-- a message: the port from which it is sent, which it has unless it came in at a system port; its value; where it goes
pub record Sent : Type 0 where
  pub from : Option End
  pub value : Value
  pub way : Way

-- the message that is sent where a component asks for this
abbrev pub sent_by : Going → ComponentId → Request → Option Sent
sent_by c itself (Sends port to v) =
    let from : End = record { component = itself.path; port = port } in
    option_map (λ way. record { from = Some from; value = v; way = way }) (way_from c from to)
sent_by c itself _ = None

-- what a component asks for, where nothing fails before it asks
abbrev pub request_in : Act → Option Request
request_in (Requests request own) = Some request
request_in _ = None

-- what a component's statement asks for, where it has a step and nothing fails before it asks: to do it may still fail
abbrev pub request_of_component : Test → Going → Component → Option Request
request_of_component test c component = if_running component (request_in (act test (snapshot_of c component) component.own))

-- the message that a component's statement sends
abbrev pub sent_of_component : Test → Going → Component → Option Sent
sent_of_component test c component = option_and_then (sent_by c component.itself) (request_of_component test c component)

-- the message that the delivery at a system port brings
abbrev pub sent_in : Test → Going → Identifier → Option Sent
sent_in test c system_port =
    option_and_then (λ e. option_map (λ v. record { from = None; value = v; way = way_to c e }) (next_message test c system_port)) (entry c.mappings system_port)

-- ---- the steps of labels

-- the component whose statement makes the step of a label
abbrev pub maker : Going → Label → Option Component
maker c (Statement path) = component_at c path
maker c (Expiry path number name) = None
maker c (Delivery system_port) = None

-- what the step of a label asks for, in a test case that goes on
abbrev pub request_going : Test → Going → Label → Option Request
request_going test c label = option_and_then (request_of_component test c) (maker c label)

-- what the step of a label asks for, where it is that of a statement and nothing fails before it asks
abbrev pub request_of : Test → Configuration → Label → Option Request
request_of test (Ended v) label = None
request_of test (Goes c) label = request_going test c label

-- the message that the step of a label sends or brings, in a test case that goes on
abbrev pub sent_going : Test → Going → Label → Option Sent
sent_going test c (Statement path) = option_and_then (sent_of_component test c) (component_at c path)
sent_going test c (Expiry path number name) = None
sent_going test c (Delivery system_port) = sent_in test c system_port

-- the message that the step of a label sends or brings
abbrev pub sent_of : Test → Configuration → Label → Option Sent
sent_of test (Ended v) label = None
sent_of test (Goes c) label = sent_going test c label

-- the place of the statement that the step of a label begins with, in a test case that goes on
abbrev pub place_going : Going → Label → Option Span
place_going c label = option_and_then place_of (maker c label)

-- the place of the statement that the step of a label begins with, where it is that of a statement
abbrev pub place_of_step : Configuration → Label → Option Span
place_of_step (Ended v) label = None
place_of_step (Goes c) label = place_going c label

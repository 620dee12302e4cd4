-- What is made to be remembered of steps.
use Rattle.std.specs.Prelude.{◌≡◌, ℕ, true, false, List, Option, Some, slice_get}
use Rattle.std.specs.Option.{option_map}
use Rattle.config_packed.specs.Pieces.{spell_key}
use Rattle.config_parts.specs.Legend.{Legend, component_by, going_by, message_by}
use Rattle.config_parts.specs.declared.component.Component.{Component}
use Rattle.config_parts.specs.declared.config.Config.{Config}
use Rattle.config_parts.specs.declared.config.Config.TheVariants as config
use Rattle.config_parts.specs.declared.config.Going.{Going}
use Rattle.config_parts.specs.declared.connection.End.{End}
use Rattle.laws_local.specs.Alone.{IsLive, IsOf, ends_itself, is_own_request, is_stop_of, removed_at, removed_by, steps_alone}
use Rattle.semantics.specs.Canonical.{canonical_graph}
use Rattle.semantics.specs.Configurations as rules
use Rattle.semantics.specs.LiveParts.{live_part}
use Rattle.semantics.specs.Places.{branch_of}
use Rattle.semantics.specs.Runs.{option_elim}
use Rattle.semantics.specs.Statements.{Request}
use Rattle.semantics.specs.Steps.{Label, next}
use Rattle.semantics.specs.Telling.{Reaches, Sent, sent_of}
use Rattle.ttcn_step.specs.Machines.{Machine, legend, said}
use Rattle.ttcn_syntax.specs.declared.place.Span.{Span}
use Rattle.ttcnx_runs.specs.Remembered.{IsEffectWithin, led_to, place_at, shown}
use Rattle.ttcnx_runs.specs.declared.outcome.Effect.{Effect}
use Rattle.ttcnx_runs.specs.declared.outcome.Outcome.{Outcome}
use Rattle.ttcnx_runs.specs.declared.outcome.Sending.{Sending}
use Rattle.ttcnx_runs.specs.declared.step_place.StepPlace.{StepPlace}
use Rattle.value_types.specs.declared.path.Path.{Path}
use Rattle.value_types.specs.declared.value.Value.{Value}

-- what is asked for changes nothing but the component that asks, and this is the port whose first message goes
abbrev pub IsRemoved : Legend → Option Request → Option ℕ → Type 0
IsRemoved legend request removed = (option_elim false is_own_request request ≡ true) × (option_map legend.names removed ≡ removed_by request)

-- the step of a label changes nothing but the component that the label is of, and this is the port whose first message goes
abbrev pub IsAlone : Machine → rules.Configuration → Label → Option ℕ → Type 0
IsAlone machine state label removed =
    (c : rules.Going) (x : rules.Component) → state ≡ rules.Goes c → rules.component_at c (rules.path_of x) ≡ Some x → IsOf x label
    → (steps_alone machine.test c x label ≡ true) × (option_map (legend machine).names removed ≡ removed_at machine.test c x label)

-- a label leads from a configuration to a state
abbrev pub LeadsTo : Machine → Config → Label → rules.Configuration → Type 0
LeadsTo machine configuration label after = option_map live_part (next machine.test (said machine configuration) label) ≡ Some after

-- a component is at a place of a configuration that goes on, and is what a label is of
pub record IsHere (machine : Machine) (configuration : Config) (going : Going) (at : ℕ) (component : Component) (label : Label) : Type 0 where
  pub is : configuration ≡ config.Going going
  pub live : IsLive (going_by (legend machine) going)
  pub here : slice_get going.components at ≡ Some component
  pub of : IsOf (component_by (legend machine) component) label

-- what is asked for ends the component that asks, which has this path
abbrev pub IsEnding : Path → Option Request → Type 0
IsEnding path request = option_elim false (is_stop_of path) request ≡ true

-- the step of a label ends the component that the label is of
abbrev pub EndsThere : Machine → rules.Configuration → Label → Type 0
EndsThere machine state label =
    (c : rules.Going) (x : rules.Component) → state ≡ rules.Goes c → rules.component_at c (rules.path_of x) ≡ Some x → IsOf x label → ends_itself machine.test c x label ≡ true

-- by the step of a label, which is of the component at a place, that component sends a message to a port of another one
pub record IsSent (machine : Machine) (going : Going) (component : Component) (label : Label) (sending : Sending) : Type 0 where
  pub sent : Sent
  pub is : sent_of machine.test (rules.Goes (going_by (legend machine) going)) label ≡ Some sent
  pub port : rules.End
  pub way : sent.way ≡ Reaches port
  pub receiver : Component
  pub there : slice_get going.components sending.to ≡ Some receiver
  pub path : receiver.itself.path ≡ port.component
  pub apart : rules.same_path receiver.itself.path component.itself.path ≡ false
  pub named : (legend machine).names sending.port ≡ port.port
  pub message : message_by sending.message ≡ record { value = sent.value; sender = Some component.itself }

-- a message of this value from the component at a place, to a port of another one
pub record IsSending (components : List Component) (at : ℕ) (value : Value) (port : End) (sending : Sending) : Type 0 where
  pub sender : Component
  pub receiver : Component
  pub here : slice_get components at ≡ Some sender
  pub there : slice_get components sending.to ≡ Some receiver
  pub path : receiver.itself.path ≡ port.component
  pub apart : rules.same_path receiver.itself.path sender.itself.path ≡ false
  pub named : sending.port ≡ port.port
  pub message : sending.message ≡ record { value = value; sender = Some sender.itself }

-- wherever a component sees what it sees here, this is where an effect leads
abbrev pub Holds : Machine → Going → ℕ → Component → (Going → ℕ → Component → Type 0) → Type 0
Holds machine going at component claim =
    (g : Going) (i : ℕ) (c : Component) → IsLive (going_by (legend machine) g) → slice_get g.components i ≡ Some c → spell_key going at component ≡ spell_key g i c → claim g i c

-- wherever a component sees what it sees here, an effect leads where a label leads
abbrev pub IsMade : Machine → Going → ℕ → Component → Label → Effect → Type 0
IsMade machine going at component label effect =
    Holds machine going at component (λ g i c. led_to machine g i c effect ≡ (canonical_graph machine.test).after (said machine (config.Going g)) label)

-- wherever a component sees what it sees here, an effect can be put in its place
abbrev pub IsFit : Machine → Going → ℕ → Component → Effect → Type 0
IsFit machine going at component effect = Holds machine going at component (λ g i c. IsEffectWithin machine g i effect)

-- by the rules, the branch that the step of a label takes, and where it leads
abbrev pub step_of : Machine → Going → Label → Option Span × rules.Configuration
step_of machine going label = (branch_of machine.test (said machine (config.Going going)) label, (canonical_graph machine.test).after (said machine (config.Going going)) label)

-- wherever a component sees what it sees here, this is what is shown of the step of a label
abbrev pub IsMadeOf : Machine → Going → ℕ → Component → Label → Outcome → Type 0
IsMadeOf machine going at component label outcome = Holds machine going at component (λ g i c. shown machine g i c outcome ≡ step_of machine g label)

-- wherever a component sees what it sees here, the step of a label is there
abbrev pub IsPlaced : Machine → Going → ℕ → Component → Label → Option StepPlace → Type 0
IsPlaced machine going at component label event = Holds machine going at component (λ g i c. event ≡ place_at machine g label)

-- What is remembered of the steps of a component: it is true of all configurations in which the component sees what the key tells.
use Rattle.std.specs.Prelude.{◌≡◌, ℕ, List, Option, None, Some, map, slice_get}
use Rattle.std.specs.List.{All}
use Rattle.config_packed.specs.Pieces.{AreJoined, changed_going, joined_going, spell_key, with_verdict_and_own}
use Rattle.config_parts.specs.Legend.{component_by, going_by}
use Rattle.config_parts.specs.Views.{IsGoingWithin, IsWithin}
use Rattle.config_parts.specs.internal.Changes.{changed_at, with_message, with_queues, without_message}
use Rattle.config_parts.specs.declared.component.Component.{Component}
use Rattle.config_parts.specs.declared.component.Queue.{Queue}
use Rattle.config_parts.specs.declared.config.Config.{Config}
use Rattle.config_parts.specs.declared.config.Config.TheVariants as config
use Rattle.config_parts.specs.declared.config.Going.{Going}
use Rattle.config_parts.specs.declared.frame.Data.{Data}
use Rattle.laws_local.specs.Alone.{IsLive}
use Rattle.search_ordinals.specs.Ordinals.{with_branch}
use Rattle.semantics.specs.Canonical.{canonical_graph}
use Rattle.semantics.specs.Configurations as rules
use Rattle.semantics.specs.Labels.{labels_of_component}
use Rattle.semantics.specs.Places.{branch_of}
use Rattle.semantics.specs.Steps.{Label}
use Rattle.ttcn_step.specs.Machines.{Machine, extent, legend, said}
use Rattle.ttcn_syntax.specs.declared.place.Span.{Span}
use Rattle.ttcn_syntax.specs.declared.tree.statement.Verdict.{Verdict}
use Rattle.ttcnx_runs.specs.Sights.{step_place}
use Rattle.ttcnx_runs.specs.declared.outcome.Effect.{Effect}
use Rattle.ttcnx_runs.specs.declared.outcome.Effect.TheVariants as effect
use Rattle.ttcnx_runs.specs.declared.outcome.Outcome.{Outcome}
use Rattle.ttcnx_runs.specs.declared.outcome.Sending.{Sending}
use Rattle.ttcnx_runs.specs.declared.step_place.StepPlace.{StepPlace}

-- queues without the first message of a port, where a port is named
abbrev pub without_front : Option ℕ → List Queue → List Queue
without_front None queues = queues
without_front (Some port) queues = without_message port queues

-- the component at a place has another verdict and other data, and a message comes behind those at a port of the component at a place
abbrev pub sent_going : Going → ℕ → Verdict × Data → Sending → Going
sent_going going at own sending = record {
  components = changed_at (changed_at going.components at (with_verdict_and_own own.0 own.1)) sending.to (with_queues (with_message sending.port sending.message));
  links = going.links;
  forgotten = going.forgotten;
}

-- the configuration in which the component at a place, and what all components see, are those of another one
abbrev pub joined_config : Going → ℕ → Config → Config
joined_config going at (config.Ended v) = config.Ended v
joined_config going at (config.Going other) = config.Going (joined_going going at other)

-- where an effect leads from a configuration, in which the component is at this place
abbrev pub led_to : Machine → Going → ℕ → Component → Effect → rules.Configuration
led_to machine going at component (effect.Alone own removed) = said machine (config.Going (changed_going going at own.0 own.1 at (without_front removed component.queues)))
led_to machine going at component (effect.Sends own sending) = said machine (config.Going (sent_going going at own sending))
led_to machine going at component (effect.Ends behind) = said machine (joined_config going at behind)
led_to machine going at component (effect.Other label) = (canonical_graph machine.test).after (said machine (config.Going going)) label

-- the branch that is taken, and where the step leads
abbrev pub shown : Machine → Going → ℕ → Component → Outcome → Option Span × rules.Configuration
shown machine going at component outcome = (outcome.branch, led_to machine going at component outcome.effect)

-- the same, by the rules, of each enabled label of the component
abbrev pub steps_of : Machine → Going → Component → List (Option Span × rules.Configuration)
steps_of machine going component =
    with_branch (branch_of machine.test) (canonical_graph machine.test) (said machine (config.Going going))
    (labels_of_component machine.test (going_by (legend machine) going) (component_by (legend machine) component))

-- by the rules, where the step of a label is
abbrev pub place_at : Machine → Going → Label → Option StepPlace
place_at machine going label = step_place machine.test (said machine (config.Going going)) label

-- the same of each enabled label of the component
abbrev pub places_of : Machine → Going → Component → List (Option StepPlace)
places_of machine going component = map (place_at machine going) (labels_of_component machine.test (going_by (legend machine) going) (component_by (legend machine) component))

-- a component and what all see can be taken from a configuration, which has positions and names
abbrev pub CanJoin : Machine → Going → ℕ → Config → Type 0
CanJoin machine going at (config.Ended v) = ⊥
CanJoin machine going at (config.Going other) = AreJoined going at other × IsGoingWithin (extent machine) other

-- what a component has behind a step has positions and names, and can be put in its place
abbrev pub IsEffectWithin : Machine → Going → ℕ → Effect → Type 0
IsEffectWithin machine going at (effect.Alone own removed) = IsWithin (extent machine) own.1
IsEffectWithin machine going at (effect.Sends own sending) = IsWithin (extent machine) own.1
IsEffectWithin machine going at (effect.Ends behind) = CanJoin machine going at behind
IsEffectWithin machine going at (effect.Other label) = Unit {0}

-- these are the steps of each component of which this is the key
pub record AreOutcomes (machine : Machine) (key : List ℕ) (outcomes : List Outcome) : Type 0 where
  pub steps : (going : Going) (at : ℕ) (component : Component) → IsLive (going_by (legend machine) going) → slice_get going.components at ≡ Some component → key ≡ spell_key going at component
      → map (shown machine going at component) outcomes ≡ steps_of machine going component
  pub places : (going : Going) (at : ℕ) (component : Component) → IsLive (going_by (legend machine) going) → slice_get going.components at ≡ Some component → key ≡ spell_key going at component
      → map (λ outcome. outcome.event) outcomes ≡ places_of machine going component
  pub within : (going : Going) (at : ℕ) (component : Component) → IsLive (going_by (legend machine) going) → slice_get going.components at ≡ Some component → key ≡ spell_key going at component
      → All (λ outcome. IsEffectWithin machine going at outcome.effect) outcomes

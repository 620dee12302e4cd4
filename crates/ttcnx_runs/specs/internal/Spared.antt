-- What is left out of what is remembered of steps.
use Rattle.std.specs.Prelude.{◌≡◌, ℕ, ◌+◌, ◌<◌, ◌≤◌, Bool, true, List, Option, None, Some, length, map, slice_get, take}
use Rattle.std.specs.List.{flat_map}
use Rattle.config_packed.specs.Pieces.{spell_key}
use Rattle.config_parts.specs.declared.component.Component.{Component}
use Rattle.config_parts.specs.declared.config.Config.TheVariants as config
use Rattle.config_parts.specs.declared.config.Going.{Going}
use Rattle.search_ordinals.specs.Told.{IsNth}
use Rattle.semantics.specs.Canonical.{canonical_graph}
use Rattle.semantics.specs.Configurations as rules
use Rattle.semantics.specs.Labels.{labels}
use Rattle.semantics.specs.Steps.{Label}
use Rattle.summary.specs.Graph.{Graph}
use Rattle.ttcn_step.specs.Machines.{Machine, said}
use Rattle.ttcnx_runs.specs.internal.Recalls.{FitsState}
use Rattle.search_ordinals.specs.Sparing.{IsEarly}
use Rattle.ttcnx_runs.specs.declared.outcome.Effect.{Effect}
use Rattle.ttcnx_runs.specs.declared.outcome.Outcome.{Outcome}

-- of what is remembered of components, this is the effect of the step before which so many come; it is of the component at this place
pub record IsStepAmong {A : Type 0} (outcomes : A → List Outcome) (all : List A) (nth at : ℕ) (effect : Effect) : Type 0 where
  pub one : A
  pub there : slice_get all at ≡ Some one
  pub number : ℕ
  pub outcome : Outcome
  pub here : slice_get (outcomes one) number ≡ Some outcome
  pub is : outcome.effect ≡ effect
  pub counted : nth ≡ length (flat_map outcomes (take at all)) + number

-- the keys of the first components of a configuration, in their order
pub record AreFirstKeys (going : Going) (keys : List (List ℕ)) : Type 0 where
  pub count : length keys ≤ length going.components
  pub each : (at : ℕ) (component : Component) → at < length keys → slice_get going.components at ≡ Some component → slice_get keys at ≡ Some (spell_key going at component)

-- a step with this effect, of the component at a place, leads from one configuration to another one; so many steps come before it, and this is what is remembered of the first components before it
pub record IsReached {A : Type 0} (machine : Machine) (key : A → List ℕ) (outcomes : A → List Outcome) (before : Going) (nth : ℕ) (known : List A) (at : ℕ) (effect : Effect) (going : Going) : Type 0 where
  pub state : FitsState machine (config.Going before)
  pub keys : AreFirstKeys before (map key known)
  pub step : IsStepAmong outcomes known nth at effect
  pub label : Label
  pub numbered : IsNth (labels machine.test (said machine (config.Going before))) nth label
  pub leads : said machine (config.Going going) ≡ (canonical_graph machine.test).after (said machine (config.Going before)) label

-- the branch of a step, and where it leads; without the latter, where that is early
abbrev pub IsSpared : {B : Type 0} → Graph rules.Configuration Label → rules.Configuration → ℕ → Option B × rules.Configuration → Option B × Option rules.Configuration → Type 0
IsSpared g before nth step (b, Some after) = (b ≡ step.0) × (after ≡ step.1)
IsSpared g before nth step (b, None) = (b ≡ step.0) × IsEarly g before nth step.1

-- a state to which a step leads, or none where it is early
abbrev pub IsLeft : Bool → rules.Configuration → Option rules.Configuration → Type 0
IsLeft early after None = early ≡ true
IsLeft early after (Some state) = state ≡ after

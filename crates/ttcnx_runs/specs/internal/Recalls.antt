-- Configurations whose successors are made from what is remembered.
use Rattle.std.specs.Prelude.{◌≡◌, ℕ, Bool, true, false, List, [], ◌∷◌, Option, Some, length, slice_get}
use Rattle.config_packed.specs.Pieces.{IsCut, has_mappings, spell_key}
use Rattle.config_packed.specs.declared.pieces.ConfigBytes.{ConfigBytes}
use Rattle.config_parts.specs.Legend.{going_by}
use Rattle.config_parts.specs.Views.{IsConfigWithin}
use Rattle.config_parts.specs.declared.component.Component.{Component}
use Rattle.config_parts.specs.declared.config.Config.{Config}
use Rattle.config_parts.specs.declared.config.Config.TheVariants as config
use Rattle.config_parts.specs.declared.config.Going.{Going}
use Rattle.laws_local.specs.Alone.{has_labels, how_many}
use Rattle.semantics.specs.Configurations as rules
use Rattle.semantics.specs.Places.{branch_of}
use Rattle.semantics.specs.Steps.{Label}
use Rattle.ttcn_step.specs.Machines.{Machine, extent, legend, said}
use Rattle.ttcn_syntax.specs.declared.place.Span.{Span}
use Rattle.ttcnx_runs.specs.Runs.{FitsRuns}
use Rattle.ttcnx_runs.specs.Sights.{step_place}
use Rattle.ttcnx_runs.specs.declared.outcome.Outcome.{Outcome}
use Rattle.ttcnx_runs.specs.declared.step_place.StepPlace.{StepPlace}

-- a configuration of the code is one of a state
pub record FitsState (machine : Machine) (configuration : Config) : Type 0 where
  pub within : IsConfigWithin (extent machine) configuration
  pub fits : FitsRuns (said machine configuration)

-- a configuration that goes on, cut into these parts, in which no system port is mapped
pub record IsToRecall (configuration : Config) (parts : ConfigBytes) : Type 0 where
  pub going : Going
  pub is : configuration ≡ config.Going going
  pub cut : IsCut going parts
  pub unmapped : has_mappings going.links ≡ false

-- how many components have enabled labels
abbrev pub active_in : Machine → rules.Going → ℕ
active_in machine going = how_many (has_labels machine.test going) going.components

-- a configuration that goes on, cut into these parts; so many components have labels
pub record CanRecall (machine : Machine) (configuration : Config) (parts : ConfigBytes) (active : ℕ) : Type 0 where
  pub going : Going
  pub is : configuration ≡ config.Going going
  pub cut : IsCut going parts
  pub state : FitsState machine configuration
  pub counted : active ≡ active_in machine (going_by (legend machine) going)

-- the keys of the components of a configuration, in their order
pub record AreKeys (going : Going) (keys : List (List ℕ)) : Type 0 where
  pub count : length keys ≡ length going.components
  pub each : (at : ℕ) (component : Component) → slice_get going.components at ≡ Some component → slice_get keys at ≡ Some (spell_key going at component)

-- whether a component has steps, by what is remembered of it
abbrev pub has_steps : List Outcome → Bool
has_steps [] = false
has_steps (outcome ∷ outcomes) = true

-- the branch that a remembered step takes, and where the step is
abbrev pub branch_and_place : Outcome → Option Span × Option StepPlace
branch_and_place outcome = (outcome.branch, outcome.event)

-- the same, by the rules, of a label
abbrev pub branch_and_place_of : Machine → Config → Label → Option Span × Option StepPlace
branch_and_place_of machine configuration label = (branch_of machine.test (said machine configuration) label, step_place machine.test (said machine configuration) label)

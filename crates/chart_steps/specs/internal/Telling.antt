-- What a single step is told as.
use Rattle.std.specs.Prelude.{◌≡◌, ℕ, None, Result, Ok, Err}
use Rattle.chart_steps.specs.Stories.{IsTold}
use Rattle.chart_steps.specs.declared.story.Told.{Told}
use Rattle.config_parts.specs.declared.config.Config.{Config}
use Rattle.semantics.specs.Steps.{Label, next}
use Rattle.ttcn_step.specs.Machines.{Machine, said}
use Rattle.ttcn_step.specs.declared.error.ReplayError.{ReplayError}
use Rattle.ttcn_step.specs.declared.error.ReplayError.TheVariants as replaying

-- a call tells what the step of a label does, or answers its number where the label is not enabled, unless memory was refused
abbrev pub TellsStep : Machine → Config → Label → ℕ → Result Told ReplayError → Type 0
TellsStep machine config label number (Ok told) = IsTold machine config label told
TellsStep machine config label number (Err (replaying.NotEnabled k)) = (next machine.test (said machine config) label ≡ None) × (k ≡ number)
TellsStep machine config label number (Err replaying.Memory) = Unit {0}

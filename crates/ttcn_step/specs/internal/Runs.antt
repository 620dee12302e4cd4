-- Runs, as the private functions know them.
use Rattle.std.specs.Prelude.{◌≡◌, ℕ, Option, Some, None, Result, Ok, Err}
use Rattle.semantics.specs.Configurations as rules
use Rattle.config_parts.specs.declared.config.Config.{Config}
use Rattle.ttcn_step.specs.Machines.{Machine, said}
use Rattle.ttcn_step.specs.declared.error.ReplayError.{ReplayError}
use Rattle.ttcn_step.specs.declared.error.ReplayError.TheVariants as replaying

-- a call gives the configuration to which the label of a number leads, or says that it is not enabled, unless memory was refused
abbrev pub Follows : Machine → ℕ → Option rules.Configuration → Result Config ReplayError → Type 0
Follows machine number next (Ok config) = next ≡ Some (said machine config)
Follows machine number next (Err (replaying.NotEnabled k)) = (next ≡ None) × (k ≡ number)
Follows machine number next (Err replaying.Memory) = Unit {0}

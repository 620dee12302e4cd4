-- What calls of a machine answer.
use Rattle.std.specs.Prelude.{◌≡◌, ℕ, Option, Some, None, Result, Ok, Err}
use Rattle.semantics.specs.Configurations as rules
use Rattle.semantics.specs.Steps as steps
use Rattle.config_parts.specs.declared.config.Config.{Config}
use Rattle.ttcn_step.specs.Machines.{Machine, said}
use Rattle.ttcn_step.specs.declared.error.ReplayError.{ReplayError}
use Rattle.ttcn_step.specs.declared.error.ReplayError.TheVariants as replaying
use Rattle.ttcn_step.specs.declared.error.StepError.{StepError}
use Rattle.ttcn_step.specs.declared.error.StepError.TheVariants as step
use Rattle.ttcn_step.specs.declared.successor.Successor.{Successor}

-- a call gives the configuration to which a label leads, or says that the label is not enabled, unless memory was refused
abbrev pub Leads : Machine → Option rules.Configuration → Result Config StepError → Type 0
Leads machine next (Ok config) = next ≡ Some (said machine config)
Leads machine next (Err step.NotEnabled) = next ≡ None
Leads machine next (Err step.Memory) = Unit {0}

-- a call gives the configuration in which a run ends, or the number of its first label that is not enabled, unless memory was refused
abbrev pub Ends : Machine → Result rules.Configuration ℕ → Result Config ReplayError → Type 0
Ends machine run (Ok config) = run ≡ Ok (said machine config)
Ends machine run (Err (replaying.NotEnabled number)) = run ≡ Err number
Ends machine run (Err replaying.Memory) = Unit {0}

-- a label leads from a configuration to another
abbrev pub IsSuccessor : Machine → Config → Successor → Type 0
IsSuccessor machine config s = steps.next machine.test (said machine config) s.label ≡ Some (said machine s.config)

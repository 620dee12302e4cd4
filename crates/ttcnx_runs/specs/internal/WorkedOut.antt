-- Steps that were worked out, as the code keeps them.
use Rattle.std.specs.Prelude.{◌≡◌, List, map}
use Rattle.std.specs.List.{All}
use Rattle.config_parts.specs.declared.config.Config.{Config}
use Rattle.semantics.specs.Configurations as rules
use Rattle.semantics.specs.Labels.{labels}
use Rattle.semantics.specs.Places.{branch_of}
use Rattle.ttcn_step.specs.Machines.{Machine, said}
use Rattle.ttcnx_runs.specs.internal.Makes.{LeadsTo}
use Rattle.ttcnx_runs.specs.declared.step.Step.{Step}

-- a label with the branch that its step takes from a configuration, and the state to which it leads
pub record IsStep (machine : Machine) (configuration : Config) (step : Step rules.Configuration) : Type 0 where
  pub branch : step.branch ≡ branch_of machine.test (said machine configuration) step.label
  pub leads : LeadsTo machine configuration step.label step.after

-- the steps of all enabled labels of a configuration
pub record AreSteps (machine : Machine) (configuration : Config) (steps : List (Step rules.Configuration)) : Type 0 where
  pub enabled : map (λ step. step.label) steps ≡ labels machine.test (said machine configuration)
  pub each : All (IsStep machine configuration) steps

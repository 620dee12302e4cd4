-- What states feed a hasher: what the bytes of the configuration of the code are hashed to that stands for one of the rules.
use Rattle.std.specs.Prelude.{◌≡◌, ℕ, ◌/◌, ◌^◌, true}
use Rattle.std.proofs.Common.{ap}
use Rattle.std.specs.Hash as hashed
use Rattle.std.specs.Hash.{HashWrites}
use Rattle.ttcnx_runs.specs.Codes.{code_of}
use Rattle.ttcnx_runs.specs.SameConfigurations.{configuration_one, same_configuration}
use Rattle.config_packed.specs.Shares as shares
use Rattle.config_parts.specs.declared.config.Config.{Config}
use Rattle.semantics.specs.Configurations.{Configuration}
use Rattle.ttcn_step.specs.Machines.{Machine}

-- the upper half of what the bytes of a configuration of the code are hashed to
abbrev pub hash_code : Config → ℕ
hash_code c = shares.hash_code c / 2 ^ 32

-- what a configuration of the rules feeds a hasher on a machine, by the one of the code that stands for it
abbrev pub fed : Machine → Configuration → HashWrites
fed machine c = hashed.u32 (hash_code (code_of machine.lists machine.names c))

pub fed_alike : (machine : Machine) (c d : Configuration) → same_configuration c d ≡ true → fed machine c ≡ fed machine d
fed_alike machine c d same = ap (fed machine) (configuration_one c d same)

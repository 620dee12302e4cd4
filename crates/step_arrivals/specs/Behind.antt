-- The configuration behind a step.
use Rattle.std.specs.Prelude.{◌≡◌, Option}
use Rattle.std.specs.Option.{option_map}
use Rattle.config_parts.specs.Legend.{Legend, config_by}
use Rattle.config_parts.specs.declared.config.Config.{Config}
use Rattle.semantics.specs.Configurations as rules
use Rattle.semantics.specs.Steps.{settled}
use Rattle.value_types.specs.Outcomes.{Outcome}

-- the configuration behind a step, where there is a step: one that fails ends the test case
abbrev pub IsBehind : Legend → Option (Outcome rules.Configuration) → Option Config → Type 0
IsBehind legend step after = option_map (config_by legend) after ≡ option_map settled step

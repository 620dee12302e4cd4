-- Configurations with the same bytes are equal, and the other way round.
use Rattle.std.proofs.Common.{◌≡◌, true, subst}
use Rattle.std.specs.Cmp.{both_ways}
use Rattle.ttcnx_runs.specs.CodeEquality.{config_itself, config_one, equal_configs}
use Rattle.config_packed.proofs.ConfigsBack.{same_bytes_itself, same_bytes_one}
use Rattle.config_packed.specs.Packs.{same_bytes}
use Rattle.config_parts.specs.declared.config.Config.{Config}

pub same-bytes-equal : (a b : Config) → same_bytes a b ≡ equal_configs a b
same-bytes-equal a b = both_ways (same_bytes a b) (equal_configs a b)
    (λ same. subst (λ c. equal_configs a c ≡ true) (same_bytes_one a b same) (config_itself a))
    (λ same. subst (λ c. same_bytes a c ≡ true) (config_one a b same) (same_bytes_itself a))

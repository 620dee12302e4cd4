-- What a state knows of its labels.
use Rattle.std.specs.Prelude.{◌≡◌, Bool, true, []}
use Rattle.semantics.specs.Configurations.{Configuration}
use Rattle.semantics.specs.Labels.{labels}
use Rattle.semantics.specs.Snapshots.{Test}

-- where this is true, some label of the configuration is enabled
pub record GoesOn (test : Test) (c : Configuration) (known : Bool) : Type 0 where
  pub some : known ≡ true → ¬ (labels test c ≡ [])

-- When two configurations are the same for all that follows (ES 201 873-4).
use Rattle.std.specs.Prelude.{◌≡◌}
use Rattle.semantics.specs.Configurations.{Configuration}
use Rattle.semantics.specs.LiveParts.{live_part}

-- two configurations have the same live part
abbrev pub AreSame : Configuration → Configuration → Type 0
AreSame c d = live_part c ≡ live_part d

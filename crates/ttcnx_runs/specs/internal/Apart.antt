-- Steps of two components that lead to the same in both orders.
use Rattle.std.specs.Prelude.{◌≡◌, ℕ, ◌⊎◌}
use Rattle.ttcnx_runs.specs.declared.outcome.Effect.{Effect}
use Rattle.ttcnx_runs.specs.declared.outcome.Effect.TheVariants as effect
use Rattle.ttcnx_runs.specs.declared.outcome.Sending.{Sending}

-- two messages come to different queues
abbrev pub AreForTwo : Sending → Sending → Type 0
AreForTwo one other = (one.to ≡ other.to → ⊥) ⊎ (one.port ≡ other.port → ⊥)

-- of a step of the component at a place, and a step of another component: each changes what it changes in both orders, and the second one leaves what the first component sees
abbrev pub AreApart : ℕ → Effect → Effect → Type 0
AreApart at (effect.Alone own removed) (effect.Alone own′ removed′) = Unit {0}
AreApart at (effect.Alone own removed) (effect.Sends own′ sending′) = sending′.to ≡ at → ⊥
AreApart at (effect.Sends own sending) (effect.Alone own′ removed′) = Unit {0}
AreApart at (effect.Sends own sending) (effect.Sends own′ sending′) = (sending′.to ≡ at → ⊥) × AreForTwo sending sending′
AreApart at _ _ = ⊥

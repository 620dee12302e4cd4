-- An exploration ends with one number of steps, for one reason.
use Rattle.std.proofs.Common.{◌≡◌, ◌<◌, ◌≤◌, ℕ, suc, refl, arith}
use mathlib.Core.Logic.{dite}
use native.Mathlib.Decide.{dec_le}
use Rattle.explore.specs.Endings.{rank}
use Rattle.explore.specs.declared.ending.Ending.{Ending}
use Rattle.explore.specs.declared.ending.Ending.TheVariants as ending

same-rank : (one other : Ending) → rank one ≤ rank other → rank other ≤ rank one → one ≡ other
same-rank ending.Mark ending.Mark low high = refl
same-rank ending.Mark ending.Complete low high = absurd (omega arith)
same-rank ending.Mark ending.Limit low high = absurd (omega arith)
same-rank ending.Mark ending.Steps low high = absurd (omega arith)
same-rank ending.Complete ending.Mark low high = absurd (omega arith)
same-rank ending.Complete ending.Complete low high = refl
same-rank ending.Complete ending.Limit low high = absurd (omega arith)
same-rank ending.Complete ending.Steps low high = absurd (omega arith)
same-rank ending.Limit ending.Mark low high = absurd (omega arith)
same-rank ending.Limit ending.Complete low high = absurd (omega arith)
same-rank ending.Limit ending.Limit low high = refl
same-rank ending.Limit ending.Steps low high = absurd (omega arith)
same-rank ending.Steps ending.Mark low high = absurd (omega arith)
same-rank ending.Steps ending.Complete low high = absurd (omega arith)
same-rank ending.Steps ending.Limit low high = absurd (omega arith)
same-rank ending.Steps ending.Steps low high = refl

-- with which numbers of steps it may end, and why
module _ (may : ℕ → Ending → Type 0) where
  -- no fewer steps will do
  abbrev NoFewer : ℕ → Type 0
  NoFewer n = (fewer : ℕ) (why : Ending) → fewer < n → ¬ may fewer why

  pub steps-once : (m n : ℕ) (one other : Ending) → may m one → may n other → NoFewer m → NoFewer n → m ≡ n
  steps-once m n one other h k h_least k_least = dite (dec_le (suc m) n)
      (λ less. absurd (k_least m one less h))
      (λ no. dite (dec_le (suc n) m)
      (λ less. absurd (h_least n other less k))
      (λ nor. omega arith))

  -- of the reasons for which it may end with so many steps, none comes before
  abbrev IsFirst : ℕ → Ending → Type 0
  IsFirst n why = (other : Ending) → may n other → rank why ≤ rank other

  pub reason-once : (n : ℕ) (one other : Ending) → may n one → may n other → IsFirst n one → IsFirst n other → one ≡ other
  reason-once n one other h k h_first k_first = same-rank one other (h_first other k) (k_first one h)

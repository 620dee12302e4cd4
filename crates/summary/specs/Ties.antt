-- Orders by one part and then by another.
use Rattle.std.specs.Prelude.{◌≡◌}
use Rattle.std.specs.Ordering.{ordering_then}
use Rattle.std.specs.FinSet.{IsAntisymmetric}
use Rattle.std.specs.declared.cmp.Ordering.{Ordering}
use Rattle.std.specs.declared.cmp.Ordering.TheVariants.{Less, Equal, Greater}
use Rattle.std.proofs.Common.{refl}

-- what ties by both parts ties by each
pub both_tie : (r s : Ordering) → ordering_then r s ≡ Equal → (r ≡ Equal) × (s ≡ Equal)
both_tie Less s h = cc
both_tie Equal s h = (refl, h)
both_tie Greater s h = cc

-- pairs that tie by both parts are one pair
pub pair_one : {A B : Type 0} {R : A → A → Ordering} {S : B → B → Ordering} → IsAntisymmetric R → IsAntisymmetric S → IsAntisymmetric (λ (p q : A × B). ordering_then (R p.0 q.0) (S p.1 q.1))
pair_one f g p q h = let ties = both_tie _ _ h in λ i. (f p.0 q.0 ties.0 i, g p.1 q.1 ties.1 i)

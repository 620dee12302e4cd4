-- Lists in ascending order.
use Rattle.std.specs.Prelude.{◌≡◌, List, AllPairs}
use Rattle.std.specs.declared.cmp.Ordering.{Ordering}
use Rattle.std.specs.declared.cmp.Ordering.TheVariants.{Less}

-- each key is below all later ones
abbrev pub Ascends : {K : Type 0} → (K → K → Ordering) → List K → Type 0
Ascends cmp keys = AllPairs (λ k l. cmp k l ≡ Less) keys

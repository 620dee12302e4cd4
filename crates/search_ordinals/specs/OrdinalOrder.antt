-- Ordinals are compared by their numbers alone.
use Rattle.std.specs.Prelude.{Some, refl}
use Rattle.std.specs.Cmp.{IsPartialOrder, IsTotalOrder, nat_cmp_total, on_total, po}
use Rattle.std.specs.Ordering.{eq_by_cmp, nat_cmp, on}
use Rattle.std.specs.declared.cmp.Ordering.{Ordering}
use Rattle.search_ordinals.specs.declared.ordinal.Ordinal.{Ordinal}

abbrev pub ordinal_cmp : {B : Type 0} → Ordinal B → Ordinal B → Ordering
ordinal_cmp = on (λ o. o.nth) nat_cmp

pub ordinal_total : {B : Type 0} → IsTotalOrder (ordinal_cmp {B = B})
ordinal_total = on_total (λ o. o.nth) nat_cmp_total

pub ordinal_partial : {B : Type 0} → IsPartialOrder (eq_by_cmp (ordinal_cmp {B = B})) (λ o p. Some (ordinal_cmp o p))
ordinal_partial = po ordinal_total (λ o p. refl)

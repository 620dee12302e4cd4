-- A system, without how it is computed.
use Rattle.std.specs.Prelude.{ℕ, List, map, Option}

-- where runs start, the labels that are enabled in a configuration from the least to the greatest, the
-- configuration that an enabled label leads to, and the mark of a configuration
pub record Graph (C L : Type 0) : Type 0 where
  pub first : C
  pub enabled : C → List L
  pub after : C → L → C
  pub mark : C → Option ℕ

-- each of these labels with the configuration that it leads to
abbrev pub with_after : {C L : Type 0} → Graph C L → C → List L → List (L × C)
with_after g state labels = map (λ label. (label, g.after state label)) labels

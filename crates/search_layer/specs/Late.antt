-- States that a search may leave out, since runs that come earlier lead to them.
use Rattle.std.specs.Prelude.{◌≡◌, Option, None, Some, Contains}
use Rattle.std.specs.declared.cmp.Ordering.{Ordering}
use Rattle.std.specs.declared.cmp.Ordering.TheVariants.{Less}
use Rattle.summary.specs.Graph.{Graph}

module _ {C L : Type 0} (g : Graph C L) (cmp : L → L → Ordering) (before : C) (last : L) where
  -- two steps lead from the state before to this state, of which the first one comes before the last step that was taken
  pub record IsLate (state : C) : Type 0 where
    pub first : L
    pub second : L
    pub enabled : Contains (g.enabled before) first
    pub earlier : cmp first last ≡ Less
    pub behind : Contains (g.enabled (g.after before first)) second
    pub leads : g.after (g.after before first) second ≡ state

  -- a label of a state, and the state to which it leads; without one that is late
  abbrev pub IsSpared : C → L × Option C → Type 0
  IsSpared state (label, Some after) = after ≡ g.after state label
  IsSpared state (label, None) = IsLate (g.after state label)

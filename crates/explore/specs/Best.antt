-- What is answered for each mark.
use Rattle.std.specs.Prelude.{◌≡◌, ℕ, ◌<◌, List, length, slice_index_or, Option, None, Some}
use Rattle.std.specs.declared.alloc.Global.{Global}
use Rattle.std.specs.declared.vec.Vec.{Vec}
use Rattle.std.specs.declared.cmp.Ordering.{Ordering}
use Rattle.summary.specs.Graph.{Graph}
use Rattle.summary.specs.Run.{Run, labels_of}
use Rattle.summary.specs.Exploration.{HasMark, IsBest}

-- the labels of the least of the shortest runs of at most n steps that end with the mark, or none exactly where no run does
abbrev pub IsBestOf : {C L : Type 0} → Graph C L → (L → L → Ordering) → ℕ → ℕ → Option (Vec L Global) → Type 0
IsBestOf {C} {L} g cmp n mark None = (run : Run L) → HasMark g n mark run → ⊥
IsBestOf {C} {L} g cmp n mark (Some labels) = (run : Run L) × IsBest g cmp n mark run × (labels.items ≡ labels_of run)

-- one answer for each of the eight marks, in their order
pub record AreBest {C L : Type 0} (g : Graph C L) (cmp : L → L → Ordering) (n : ℕ) (best : List (Option (Vec L Global))) : Type 0 where
  pub eight : length best ≡ 8
  pub each : (mark : ℕ) → mark < 8 → IsBestOf g cmp n mark (slice_index_or best mark None)

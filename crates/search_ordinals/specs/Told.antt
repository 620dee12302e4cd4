-- Runs that are told by ordinals.
use Rattle.std.specs.Prelude.{◌≡◌, ℕ, zero, suc, List, [], ◌∷◌, Option, None, Some}
use Rattle.std.specs.declared.alloc.Global.{Global}
use Rattle.std.specs.declared.vec.Vec.{Vec}
use Rattle.search_ordinals.specs.declared.ordinal.Ordinal.{Ordinal}
use Rattle.summary.specs.Graph.{Graph}
use Rattle.summary.specs.Run.{Run, Start, Then, end_of, labels_of}

-- an item before which so many come
abbrev pub IsNth : {A : Type 0} → List A → ℕ → A → Type 0
IsNth [] n x = ⊥
IsNth (y ∷ ys) zero x = y ≡ x
IsNth (y ∷ ys) (suc n) x = IsNth ys n x

-- a run, and the same run with the ordinal of each label in its place
abbrev pub IsTold : {C L B : Type 0} → (C → L → Option B) → Graph C L → Run L → Run (Ordinal B) → Type 0
IsTold branch g Start Start = Unit {0}
IsTold branch g Start (Then told ordinal) = ⊥
IsTold branch g (Then run label) Start = ⊥
IsTold branch g (Then run label) (Then told ordinal) =
    IsTold branch g run told × IsNth (g.enabled (end_of g run)) ordinal.nth label × (ordinal.branch ≡ branch (end_of g run) label)

-- some run is told by these ordinals
abbrev pub IsTelling : {C L B : Type 0} → (C → L → Option B) → Graph C L → List (Ordinal B) → Type 0
IsTelling {C} {L} {B} branch g ordinals = (run : Run L) × (told : Run (Ordinal B)) × IsTold branch g run told × (ordinals ≡ labels_of told)

-- each run that these ordinals tell has these labels
abbrev pub AreLabelsTold : {C L B : Type 0} → (C → L → Option B) → Graph C L → List (Ordinal B) → List L → Type 0
AreLabelsTold {C} {L} {B} branch g ordinals labels = (run : Run L) (told : Run (Ordinal B)) → IsTold branch g run told → ordinals ≡ labels_of told → labels ≡ labels_of run

-- the same, where there are ordinals
abbrev pub AreToldWhereTold : {C L B : Type 0} → (C → L → Option B) → Graph C L → Option (Vec (Ordinal B) Global) → Option (Vec L Global) → Type 0
AreToldWhereTold branch g None None = Unit {0}
AreToldWhereTold branch g None (Some labels) = ⊥
AreToldWhereTold branch g (Some ordinals) None = ⊥
AreToldWhereTold branch g (Some ordinals) (Some labels) = AreLabelsTold branch g ordinals.items labels.items

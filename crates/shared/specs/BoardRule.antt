-- The rule of a board: what its two words and the views of all seats have to do with one another, between any two atomic steps.
use Rattle.std.specs.Prelude.{◌≡◌, ℕ, ◌+◌, ◌-◌, ◌<◌, ◌≤◌, min, Bool, true, false, cond, List, [], ◌∷◌, ◌++◌}
use mathlib.Core.Option.{some}
use lib.ListN.{get_elem?}
use Rattle.atomic_table.specs.Table.{State, Me}
use Rattle.shared.specs.declared.board.view.BoardKey.{BoardKey}
use Rattle.shared.specs.declared.board.view.BoardView.{BoardView}
use Rattle.shared.specs.Totals.{total, times}

-- the view of the seat that `new` gives
abbrev pub first_view : BoardKey → BoardView
first_view key = record { pieces = key.pieces; seats = key.seats; first = true; left = key.seats - 1; parts = 1; drawn = []; ends = 0; ended = false; raises = 0; saw = false }

-- a seat of the same board that did nothing yet
abbrev pub fresh : BoardView → BoardView
fresh v = record { pieces = v.pieces; seats = v.seats; first = false; left = 0; parts = 1; drawn = []; ends = 0; ended = false; raises = 0; saw = false }

-- a seat from which one seat was made
abbrev pub with_one_less : BoardView → BoardView
with_one_less v = record v { left = v.left - 1 }

-- v with what w did added
abbrev pub joined : BoardView → BoardView → BoardView
joined v w = record v { parts = v.parts + w.parts; drawn = v.drawn ++ w.drawn; ends = v.ends + w.ends; raises = v.raises + w.raises; saw = cond v.saw true w.saw }

-- what is left of a seat that was joined to another
abbrev pub spent : BoardView
spent = record { pieces = 0; seats = 0; first = false; left = 0; parts = 0; drawn = []; ends = 0; ended = false; raises = 0; saw = false }

-- the number n was drawn
abbrev pub with_drawn : BoardView → ℕ → BoardView
with_drawn v n = record v { drawn = v.drawn ++ n ∷ [] }

-- no number was left
abbrev pub with_end : BoardView → BoardView
with_end v = record v { ends = v.ends + 1; ended = true }

-- a look at the flag, which was raised or not
abbrev pub with_look : BoardView → Bool → BoardView
with_look v raised = record v { saw = raised }

-- the seat raised the flag
abbrev pub with_raise : BoardView → BoardView
with_raise v = record v { raises = v.raises + 1; saw = true }

-- A live seat is of this board. It saw the flag only if it is raised, and did if it raised it. Of the seats that it stands for each found no number left at most once, and itself only where `ended` says so
pub record Lives (key : BoardKey) (flag : ℕ) (v : BoardView) : Type 0 where
  pub pieces : v.pieces ≡ key.pieces
  pub seats : v.seats ≡ key.seats
  pub saw : v.saw ≡ true → 0 < flag
  pub raised : 0 < v.raises → v.saw ≡ true
  pub ends : v.ends + cond v.ended 0 1 ≤ v.parts

-- a seat that was joined to another counts for nothing
pub record CountsForNothing (v : BoardView) : Type 0 where
  pub left : v.left ≡ 0
  pub drawn : v.drawn ≡ []
  pub ends : v.ends ≡ 0
  pub raises : v.raises ≡ 0

-- a seat fits its board: it lives or counts for nothing, and only the first one has seats left to make
pub record FitsBoard (key : BoardKey) (flag : ℕ) (v : BoardView) : Type 0 where
  pub lives : 0 < v.parts → Lives key flag v
  pub nothing : v.parts ≡ 0 → CountsForNothing v
  pub others : v.first ≡ false → v.left ≡ 0

-- After so many draws, the numbers below that, and below the pieces, were drawn once each and no others; each further draw was one that found no number left
pub record Counts (key : BoardKey) (draws flag : ℕ) (views : List BoardView) : Type 0 where
  pub seats : total (λ v. v.parts + v.left) views ≡ key.seats
  pub drawn : (x : ℕ) → x < min draws key.pieces → total (λ v. times x v.drawn) views ≡ 1
  pub undrawn : (x : ℕ) → min draws key.pieces ≤ x → total (λ v. times x v.drawn) views ≡ 0
  pub ends : min draws key.pieces + total (λ v. v.ends) views ≡ draws
  pub low : flag < 2
  pub raised : 0 < flag → 0 < total (λ v. v.raises) views
  pub each : (id : ℕ) (v : BoardView) → get_elem? views id ≡ some v → FitsBoard key flag v

module _ {S : Type 0} where
  -- the words are the count of draws and the flag
  abbrev pub KeepsBoard : BoardKey → State S BoardView → Type 0
  KeepsBoard key s = (draws : ℕ) × (flag : ℕ) × (s.words ≡ draws ∷ flag ∷ []) × Counts key draws flag s.views

  -- a number below the pieces is drawn, and any other ends the seat's draws. No number stands twice in what was drawn
  abbrev pub DrawsOne : Me S BoardView → ℕ → Me S BoardView → Type 0
  DrawsOne m found w = (w.1 ≡ m.1) × (found < m.0.pieces → w.0 ≡ with_drawn m.0 found) × (m.0.pieces ≤ found → w.0 ≡ with_end m.0) × ((x : ℕ) → times x w.0.drawn ≤ 1)

  -- the flag is raised or not, and a seat that saw it raised sees it so again
  abbrev pub Sees : Me S BoardView → ℕ → Me S BoardView → Type 0
  Sees m found w = (w.1 ≡ m.1) × (found ≡ 0 → (m.0.saw ≡ false) × (w.0 ≡ with_look m.0 false)) × (0 < found → w.0 ≡ with_look m.0 true)

  -- the seat raised the flag, whether it was raised before or not
  abbrev pub Raises : Me S BoardView → ℕ → Me S BoardView → Type 0
  Raises m found w = (w.1 ≡ m.1) × (w.0 ≡ with_raise m.0)

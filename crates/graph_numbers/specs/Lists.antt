-- Lists that share their ends: each by the position of its cell, which has the first item and the position of the list behind it.
use Rattle.std.specs.Prelude.{◌≡◌, ℕ, ◌<◌, ◌≤◌, List, [], ◌∷◌, ◌++◌, length, fold, get_or, slice_get, Some}
use Rattle.graph_numbers.specs.declared.lists.Cell.{Cell}

module _ {I : Type 0} where
  -- the lists before a cell, and the one that it begins
  abbrev pub with_cell : List (List I) → Cell I → List (List I)
  with_cell lists cell = lists ++ (cell.item ∷ get_or lists cell.rest []) ∷ []

  -- the lists of cells: the empty one, and one for each cell
  abbrev pub lists_of : List (Cell I) → List (List I)
  lists_of cells = fold with_cell ([] ∷ []) cells

  -- each cell leads to a list before its own
  abbrev pub HaveRests : List (Cell I) → Type 0
  HaveRests cells = (i : ℕ) (cell : Cell I) → slice_get cells i ≡ Some cell → cell.rest ≤ i

  -- no list has two positions
  abbrev pub AreDifferent : List (List I) → Type 0
  AreDifferent lists = (p q : ℕ) → p < length lists → q < length lists → get_or lists p [] ≡ get_or lists q [] → p ≡ q

  -- lists stay at their positions where more come behind them
  abbrev pub Extends : List (List I) → List (List I) → Type 0
  Extends old new = (more : List (List I)) × (new ≡ old ++ more)

  -- a position is that of the list with an item before those of another, the lists that were there stay, and no other is added
  pub record IsPut (old new : List (List I)) (at : ℕ) (item : I) (rest : ℕ) : Type 0 where
    pub extended : Extends old new
    pub within : at < length new
    pub stands : get_or new at [] ≡ item ∷ get_or old rest []
    pub alone : (p : ℕ) → length old ≤ p → p < length new → p ≡ at

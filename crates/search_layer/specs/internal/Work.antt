-- What the workers of a layer do: which of its candidates' positions they place, and what their summaries show.
-- Where a candidate's state may be missing, C is the type of states or none: `option_eq` compares, and `or_none` is what is known.
use Rattle.std.specs.Prelude.{◌≡◌, ◌↔◌, ◌⊎◌, ℕ, ◌/◌, ◌<◌, ◌≤◌, Bool, true, false, List, [], ◌∷◌, map, take, slice_get, Option, None, Some, IfOk, flat_map}
use Rattle.std.specs.Option.{option_eq}
use Rattle.std.specs.List.{list_any}
use Rattle.std.specs.List.Sorted.{IsStrictlyIncreasing}
use Rattle.std.specs.Fork.{slice_chunk}
use Rattle.summary.specs.Graph.{Graph}
use Rattle.summary.specs.Sums.{Join, Observation}
use Rattle.shared.specs.declared.board.Board.{Board}
use Rattle.shared.specs.declared.board.BoardSeat.{BoardSeat}
use Rattle.shared.specs.declared.seen.Seen.{Seen}
use Rattle.shared.specs.declared.seen.SeenSeat.{SeenSeat}
use Rattle.shared.specs.declared.board.view.BoardView.{BoardView}
use Rattle.shared.specs.declared.seen.view.SeenView.{SeenView}
use Rattle.shared.specs.BoardSeats.{view as board_view, IsSeatOf as IsBoardSeatOf}
use Rattle.shared.specs.SeenSeats.{view, IsSeatOf}
use Rattle.shared.specs.Totals.{Stands}
use Rattle.search_layer.specs.declared.visited.Candidate.{Candidate}
use Rattle.search_layer.specs.declared.workers.Worker.{Worker}
use Rattle.search_layer.specs.declared.workers.Worked.{Worked}
use Rattle.search_layer.specs.internal.Search.{with_steps}

-- these states, and none: a candidate without a state is not new
abbrev pub or_none : {C : Type 0} → List C → List (Option C)
or_none known = None ∷ map Some known

module _ {C L : Type 0} where
  -- the candidates of pieces of this size, in the order of the pieces
  abbrev pub in_pieces : ℕ → List (Candidate C L) → List ℕ → List (Candidate C L)
  in_pieces size cs pieces = flat_map (slice_chunk cs size) pieces

  module _ (eq : C → C → Bool) where
    -- two candidates have equal states
    abbrev pub have_same_state : Candidate C L → Candidate C L → Bool
    have_same_state c d = eq c.state d.state

    -- the candidate at the position has a state that is none of these
    abbrev pub IsNew : List C → List (Candidate C L) → ℕ → Type 0
    IsNew known cs i = (c : Candidate C L) × (slice_get cs i ≡ Some c) × (list_any (eq c.state) known ≡ false)

    -- the positions placed are those of before, and those of the new candidates from one position on up to another
    pub record AddsNew (known : List C) (cs : List (Candidate C L)) (from to : ℕ) (old new : List ℕ) : Type 0 where
      pub members : (i : ℕ) → Stands i new ↔ (Stands i old ⊎ ((from ≤ i) × (i < to) × IsNew known cs i))

    -- the positions placed are those of the new candidates in these pieces
    pub record HasPlaced (known : List C) (cs : List (Candidate C L)) (size : ℕ) (pieces placed : List ℕ) : Type 0 where
      pub members : (i : ℕ) → Stands i placed ↔ (Stands (i / size) pieces × IsNew known cs i)

    -- the positions ascend, and are those of the candidates whose state is none of these, and no earlier candidate's
    pub record AreFirst (known : List C) (cs : List (Candidate C L)) (firsts : List ℕ) : Type 0 where
      pub ascending : IsStrictlyIncreasing firsts
      pub members : (i : ℕ) → Stands i firsts ↔ ((c : Candidate C L) × (slice_get cs i ≡ Some c) × (list_any (eq c.state) known ≡ false) × (list_any (λ d. eq c.state d.state) (take i cs) ≡ false))

-- w is the same seat as v, which stands for the same seats
pub record IsSameBoardSeat (v w : BoardView) : Type 0 where
  pub first : w.first ≡ v.first
  pub left : w.left ≡ v.left
  pub parts : w.parts ≡ v.parts

-- seats that did nothing yet
pub record IsIdle (v : SeenView) (w : BoardView) : Type 0 where
  pub seen_first : v.first ≡ false
  pub seen_left : v.left ≡ 0
  pub seen_parts : v.parts ≡ 1
  pub placed : v.placed ≡ []
  pub board_first : w.first ≡ false
  pub board_left : w.left ≡ 0
  pub board_parts : w.parts ≡ 1
  pub drawn : w.drawn ≡ []
  pub ends : w.ends ≡ 0
  pub ended : w.ended ≡ false

-- the first seats can make so many more, and stand for so many
pub record AreFirstSeats (left parts : ℕ) (v : SeenView) (w : BoardView) : Type 0 where
  pub seen_first : v.first ≡ true
  pub seen_left : v.left ≡ left
  pub seen_parts : v.parts ≡ parts
  pub board_first : w.first ≡ true
  pub board_left : w.left ≡ left
  pub board_parts : w.parts ≡ parts

-- nothing was placed and nothing drawn
pub record IsFresh (v : SeenView) (w : BoardView) : Type 0 where
  pub placed : v.placed ≡ []
  pub drawn : w.drawn ≡ []

module _ {C L : Type 0} (eq : C → C → Bool) (seen : Seen (Candidate (Option C) L)) (board : Board) where
  -- the seats are of this table and of this board
  abbrev pub AreSeatsOf : SeenSeat → BoardSeat → Type 0
  AreSeatsOf seat draws = IsSeatOf (have_same_state (option_eq eq)) seen seat × IsBoardSeatOf board draws

  -- a worker that can begin
  pub record IsReady (worker : Worker) : Type 0 where
    pub own : AreSeatsOf worker.seen worker.board
    pub idle : IsIdle (view worker.seen) (board_view worker.board)

  -- A worker that is done. Unless it saw the flag, it found no piece left and placed the new candidates of its pieces
  pub record IsDone {S : Type 0} (j : Join S) (r : Observation C L S) (g : Graph C L) (known : List C) (cs : List (Candidate (Option C) L)) (size : ℕ) (worked : Worked S) : Type 0 where
    pub own : AreSeatsOf worked.worker.seen worked.worker.board
    pub seen_first : (view worked.worker.seen).first ≡ false
    pub seen_parts : (view worked.worker.seen).parts ≡ 1
    pub board_first : (board_view worked.worker.board).first ≡ false
    pub board_parts : (board_view worked.worker.board).parts ≡ 1
    pub placed : (board_view worked.worker.board).saw ≡ false
        → (0 < (board_view worked.worker.board).ends) × HasPlaced (option_eq eq) (or_none known) cs size (board_view worked.worker.board).drawn (view worked.worker.seen).placed
    pub summary : IfOk worked.summary (λ s. s ≡ with_steps j r g known j.none (in_pieces size cs (board_view worked.worker.board).drawn))

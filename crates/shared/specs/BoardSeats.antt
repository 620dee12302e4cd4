-- What the contracts of a board say of it and of its seats.
use Rattle.std.specs.Prelude.{◌≡◌, ℕ, ◌+◌}
use Rattle.shared.specs.declared.board.Board.{Board}
use Rattle.shared.specs.declared.board.BoardSeat.{BoardSeat}
use Rattle.shared.specs.declared.board.view.BoardView.{BoardView}

-- what the seat knows
abbrev pub view : BoardSeat → BoardView
view seat = seat.seat.me.0

-- the numbers below it are drawn
abbrev pub pieces_of : Board → ℕ
pieces_of board = board.table.shared.key.pieces

-- how many seats there may be
abbrev pub seats_of : Board → ℕ
seats_of board = board.table.shared.key.seats

-- the seat is one of this board
abbrev pub IsSeatOf : Board → BoardSeat → Type 0
IsSeatOf board seat = (seat.seat.table_id ≡ board.table.shared.table_id) × ((view seat).pieces ≡ pieces_of board) × ((view seat).seats ≡ seats_of board)

-- every seat that there may be was made and joined to this one
abbrev pub AllJoined : BoardView → Type 0
AllJoined v = v.parts + v.left ≡ v.seats

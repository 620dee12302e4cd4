use Rattle.std.proofs.Common.{rules}
use Rattle.shared.proofs.BoardKeeps.{draws-as}
use Rattle.shared.proofs.board.Board.draw.Goals as goal

pub fetch_add-found-requires : goal.fetch_add-found-requires
fetch_add-found-requires c = (search rules, search rules, draws-as _ _ _ c.args.seat.now.lives (search rules) (search rules) c.args.self.now.room)

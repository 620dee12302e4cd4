use Rattle.std.proofs.Common.{rules}
use Rattle.shared.proofs.BoardKeeps.{sees-as}
use Rattle.shared.proofs.board.Board.raised.Goals as goal

pub load-requires : goal.load-requires
load-requires c = (search rules, search rules, sees-as _ _ _ c.args.seat.now.lives)

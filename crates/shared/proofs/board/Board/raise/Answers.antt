use Rattle.std.proofs.Common.{rules}
use Rattle.shared.proofs.BoardKeeps.{raises-as}
use Rattle.shared.proofs.board.Board.raise.Goals as goal

pub fetch_or-requires : goal.fetch_or-requires
fetch_or-requires c = (search rules, search rules, raises-as _ _ _ c.args.seat.now.lives)

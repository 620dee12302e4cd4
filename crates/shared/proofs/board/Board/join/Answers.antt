use Rattle.std.proofs.Common.{rules}
use Rattle.shared.proofs.BoardKeeps.{joins-as}
use Rattle.shared.proofs.board.Board.join.Goals as goal

pub join_seat-requires : goal.join_seat-requires
join_seat-requires c = (search rules, search rules, search rules, search rules, joins-as _ _ _ _ c.args.seat.now.lives c.args.other.lives c.requires.other)

use Rattle.std.proofs.Common.{rules, arith}
use Rattle.shared.proofs.SeenKeeps.{splits-as}
use Rattle.shared.proofs.seen.Seen.split.Goals as goal

pub split_seat-other-requires : goal.split_seat-other-requires
split_seat-other-requires g c = (search rules, search rules, splits-as _ _ c.args.seat.now.lives c.requires.first (omega arith))

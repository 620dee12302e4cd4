use Rattle.std.proofs.Common.{w64}
use Rattle.std.proofs.lemmas.Int.{to_z-of_z}
use Rattle.value_arithmetic.proofs.IntegerLemmas.{checked-is}
use Rattle.value_arithmetic.proofs.opposite.Goals as goal

pub returns : goal.returns
returns c = checked-is _ _ (rw (to_z-of_z w64 c.args.number c.ranges.number) at c.checked_neg.ensures)

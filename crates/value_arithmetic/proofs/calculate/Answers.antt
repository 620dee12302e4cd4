use Rattle.std.proofs.Common.{FitsSigned, w64, rules}
use Rattle.std.proofs.lemmas.Int.{to_z-of_z}
use Rattle.value_arithmetic.proofs.IntegerLemmas.{checked-is, checked-divided, given-remainder, given-modulus}
use Rattle.value_arithmetic.proofs.calculate.Goals as goal

pub returns-in-Add : goal.returns-in-Add
returns-in-Add c =
    rw c.in-Add.is (checked-is _ _ (rw (to_z-of_z w64 c.args.x c.ranges.x, to_z-of_z w64 c.args.y c.ranges.y) at c.checked_add.ensures))

pub returns-in-Subtract : goal.returns-in-Subtract
returns-in-Subtract c =
    rw c.in-Subtract.is (checked-is _ _ (rw (to_z-of_z w64 c.args.x c.ranges.x, to_z-of_z w64 c.args.y c.ranges.y) at c.checked_sub.ensures))

pub returns-in-Multiply : goal.returns-in-Multiply
returns-in-Multiply c =
    rw c.in-Multiply.is (checked-is _ _ (rw (to_z-of_z w64 c.args.x c.ranges.x, to_z-of_z w64 c.args.y c.ranges.y) at c.checked_mul.ensures))

pub returns-in-Divide : goal.returns-in-Divide
returns-in-Divide c =
    rw c.in-Divide.is (checked-divided _ c.args.x _ c.ranges.y (rw (to_z-of_z w64 c.args.x c.ranges.x, to_z-of_z w64 c.args.y c.ranges.y) at c.checked_div.ensures))

pub returns-in-Rem-2 : goal.returns-in-Rem-2
returns-in-Rem-2 c =
    let whole = rw (to_z-of_z w64 c.args.x c.ranges.x, to_z-of_z w64 c.args.y c.ranges.y) at c.wrapping_rem.ensures in
    let fits : FitsSigned w64 c.wrapping_rem.result = search rules in
    rw c.in-Rem.is (given-remainder c.args.x c.args.y _ c.ranges.y c.if-y-eq0.false fits whole)

pub returns-in-Mod-2 : goal.returns-in-Mod-2
returns-in-Mod-2 c =
    let whole = rw (to_z-of_z w64 c.args.x c.ranges.x, to_z-of_z w64 c.args.y c.ranges.y) at c.wrapping_rem_euclid.ensures in
    let fits : FitsSigned w64 c.wrapping_rem_euclid.result = search rules in
    rw c.in-Mod.is (given-modulus c.args.x c.args.y _ c.ranges.y c.if-y-eq0-2.false fits whole)

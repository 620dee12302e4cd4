use Rattle.std.proofs.Common.{Some, pos, w64, sym, ap, ◌∙◌, arith}
use Rattle.std.proofs.lemmas.Int.{to_z_pos}
use Rattle.value_arithmetic.proofs.IntegerLemmas.{within-fits, within-not}
use Rattle.value_arithmetic.proofs.number.Goals as goal

pub returns-then-digits-le9223372036854775807 : goal.returns-then-digits-le9223372036854775807
returns-then-digits-le9223372036854775807 c =
    ap Some (to_z_pos w64 c.args.digits (omega arith)) ∙ sym (within-fits (pos c.args.digits) (record { sfits = omega arith }))

pub returns-else-digits-le9223372036854775807 : goal.returns-else-digits-le9223372036854775807
returns-else-digits-le9223372036854775807 c = sym (within-not (pos c.args.digits) (λ fits. omega (arith, fits.sfits)))

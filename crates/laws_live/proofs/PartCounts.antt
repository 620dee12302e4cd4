-- How many live parts are reached is one number, and with more steps it is no smaller.
use Rattle.std.proofs.Common.{◌≡◌, ℕ, ◌≤◌, length, arith}
use Rattle.laws_live.proofs.Counting.{no-longer}
use Rattle.laws_live.specs.Parts.{CountsParts, IsPartReached}
use Rattle.semantics.specs.Configurations.{Configuration}
use Rattle.semantics.specs.Snapshots.{Test}

reached-later : (test : Test) (n m : ℕ) → n ≤ m → (part : Configuration) → IsPartReached test n part → IsPartReached test m part
reached-later test n m le part is = record { run = is.run; is_run = is.is_run; short = let short = is.short in omega arith; ends = is.ends }

pub counts-grow : (test : Test) (n m count other : ℕ) → n ≤ m → CountsParts test n count → CountsParts test m other → count ≤ other
counts-grow test n m count other le counts more =
    let fits : length counts.parts ≤ length more.parts =
    no-longer counts.parts more.parts counts.different (λ part found. more.all part (reached-later test n m le part (counts.reached part found))) in
    omega (arith, fits, counts.number, more.number)

pub counts-once : (test : Test) (n count other : ℕ) → CountsParts test n count → CountsParts test n other → count ≡ other
counts-once test n count other counts more =
    let up : count ≤ other = counts-grow test n n count other (omega arith) counts more in
    let down : other ≤ count = counts-grow test n n other count (omega arith) more counts in
    omega arith

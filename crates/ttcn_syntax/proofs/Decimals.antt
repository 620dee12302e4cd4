-- The number that digits write only grows with each digit.
use Rattle.std.proofs.Common.{◌≡◌, ℕ, ◌+◌, ◌-◌, ◌*◌, ◌/◌, ◌<◌, ◌≤◌, List, [], ◌∷◌, length, get_or, drop, fold, arith, add-one, drop-cons}
use Rattle.ttcn_syntax.specs.Cut.{decimal}

grows : (value : ℕ) (digits : List ℕ) → value ≤ fold (λ value digit. 10 * value + (digit - 48)) value digits
grows value [] = omega arith
grows value (d ∷ ds) = omega (arith, grows (10 * value + (d - 48)) ds)

-- one digit that makes it too large does so for good
pub stays-too-large : (digits : List ℕ) (i value unit : ℕ) → i < length digits
    → fold (λ value digit. 10 * value + (digit - 48)) value (drop i digits) ≡ decimal digits
    → unit ≡ get_or digits i 0 - 48
    → (9223372036854775807 - unit) / 10 < value
    → 9223372036854775807 < decimal digits
stays-too-large digits i value unit h is unit_is large =
    let e : drop i digits ≡ get_or digits i 0 ∷ drop (i + 1) digits = rw add-one (drop-cons digits i 0 h) in
    let on = rw e at is in
    let g = grows (10 * value + (get_or digits i 0 - 48)) (drop (i + 1) digits) in
    omega (arith, g, on)

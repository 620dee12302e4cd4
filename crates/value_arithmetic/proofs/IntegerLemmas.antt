-- The whole numbers that are integers, and what division leaves.
use Rattle.std.proofs.Common.{◌≡◌, ◌≢◌, ◌||◌, not, Bool, add-one, ℕ, zero, suc, ◌+◌, ◌%◌, ◌<◌, ◌≤◌, ℤ, pos, negsuc, ◌+ℤ◌, neg_ℤ, Option, Some, None, FitsSigned, w64, to_z, of_z, true, false, sym, ap, ◌∙◌, refl, arith, inl, inr, if◌then◌else◌}
use Rattle.std.specs.Prelude.{◌⊎◌, int_div, int_rem, int_lt, unsigned_abs, SomeIff}
use Rattle.std.specs.Int.{CanDivide, IsNonZero, int_rem_euclid, cast_unsigned}
use Rattle.std.specs.Ordering.{int_eq}
use Rattle.std.proofs.lemmas.Int.{ints, quot-rem, to_z-of_z}
use Rattle.std.proofs.lemmas.Bool.{cases_lt}
use Rattle.std.proofs.lemmas.Bool.Decides.{nat_tests}
use Rattle.std.proofs.Math.Nat.{suc-mod, mod-lt, mod_self, mod-eq_of_lt}
use Rattle.value_arithmetic.specs.Integers.{absolute, divided_by, modulus, remainder, within}

-- a number of 64 bits is an integer
pub within-fits : (z : ℤ) → FitsSigned w64 z → within z ≡ Some z
unfolding within
within-fits (pos n) fits = let bound : n < 9223372036854775808 = fits.sfits in grind (arith, nat_tests)
within-fits (negsuc n) fits = let bound : n < 9223372036854775808 = fits.sfits in grind (arith, nat_tests)

-- and no other is
pub within-not : (z : ℤ) → ¬ FitsSigned w64 z → within z ≡ None
unfolding within
within-not (pos n) wide = let bound : 9223372036854775808 ≤ n = elim (cases_lt n 9223372036854775808) [ inl below ↦ absurd (wide (record { sfits = below })) | inr above ↦ above ] in grind (arith, nat_tests)
within-not (negsuc n) wide = let bound : 9223372036854775808 ≤ n = elim (cases_lt n 9223372036854775808) [ inl below ↦ absurd (wide (record { sfits = below })) | inr above ↦ above ] in grind (arith, nat_tests)

-- what a checked operation leaves, where it gives the whole number z if that fits
pub checked-is : (o : Option ℤ) (z : ℤ) → SomeIff o (FitsSigned w64 z) z → o ≡ within z
checked-is (Some y) z given = ap Some given.1 ∙ sym (within-fits z given.0)
checked-is None z given = sym (within-not z given)

-- an integer is 0, or it is another and a division asks no more of it
pub zero-or-divisor : (y : ℤ) → FitsSigned w64 y → (int_eq y (pos 0) ≡ true) × (y ≡ pos 0) ⊎ (int_eq y (pos 0) ≡ false) × (IsNonZero w64 y) × (0 < unsigned_abs y)
zero-or-divisor (pos zero) fits = inl (refl, refl)
zero-or-divisor (pos (suc n)) fits = inr (grind (arith, nat_tests), omega arith, omega arith)
zero-or-divisor (negsuc n) fits = let bound : n < 9223372036854775808 = fits.sfits in inr (refl, omega arith, omega arith)

-- a divisor that is not 0
pub divided_by-nonzero : (y z : ℤ) → FitsSigned w64 y → y ≢ pos 0 → within z ≡ divided_by y z
divided_by-nonzero y z fits nonzero = elim (zero-or-divisor y fits) [
  | inl none ↦ absurd (nonzero none.1)
  | inr other ↦ ap (λ b. if b then None else within z) (sym other.0)
]

-- a checked division
pub checked-divided : (o : Option ℤ) (x y : ℤ) → FitsSigned w64 y → SomeIff o (CanDivide w64 x y) (int_div x y) → o ≡ divided_by y (int_div x y)
checked-divided (Some z) x y fits given = elim (zero-or-divisor y fits) [
  | inl none ↦ absurd (omega (arith, rw none.1 at given.0.0))
  | inr other ↦ ap Some given.1 ∙ sym (within-fits (int_div x y) given.0.1) ∙ ap (λ b. if b then None else within (int_div x y)) (sym other.0)
]
checked-divided None x y fits given = elim (zero-or-divisor y fits) [
  | inl none ↦ ap (λ b. if b then None else within (int_div x y)) (sym none.0)
  | inr other ↦ sym (within-not (int_div x y) (λ h. given (other.1, h))) ∙ ap (λ b. if b then None else within (int_div x y)) (sym other.0)
]

-- `rem`
pub remainder-is : (x y : ℤ) → remainder x y ≡ int_rem x y
remainder-is x y = omega (arith, ints, quot-rem x y)

-- the remainder of one more is one more, or 0
next-remainder : (a d : ℕ) → 0 < d → (suc a % d ≡ 0) × (a % d + 1 ≡ d) ⊎ (suc a % d ≡ a % d + 1) × (a % d + 1 < d)
next-remainder a d positive = elim (cases_lt (a % d + 1) d) [
  | inl below ↦ inr (suc-mod a d ∙ mod-eq_of_lt (omega arith) ∙ omega arith, below)
  | inr above ↦
      let last : suc (a % d) ≡ d = omega (arith, mod-lt a positive) in
      inl (suc-mod a d ∙ ap (λ k. k % d) last ∙ mod_self d, omega arith)
]

-- what `mod` makes of the remainder, where x is negative or not
abbrev from_remainder : Bool → ℤ → ℤ → ℤ
from_remainder negative left d = if not negative || int_eq left (pos 0) then left else d +ℤ left

-- `mod`
pub modulus-is : (x y : ℤ) → 0 < unsigned_abs y → modulus x y ≡ int_rem_euclid x y
unfolding modulus
modulus-is (pos a) y positive =
    let not_negative : int_lt (pos a) (pos 0) ≡ false = grind (arith, nat_tests) in
    ap (λ r. from_remainder (int_lt (pos a) (pos 0)) r (absolute y)) (remainder-is (pos a) (absolute y)) ∙
    ap (λ b. from_remainder b (pos (a % unsigned_abs y)) (absolute y)) not_negative
modulus-is (negsuc a) y positive =
    let k = unsigned_abs y in
    ap (λ r. from_remainder true r (absolute y)) (remainder-is (negsuc a) (absolute y)) ∙
    elim (next-remainder a (unsigned_abs y) positive) [
      | inl none ↦ ap (λ r. from_remainder true (neg_ℤ (pos r)) (absolute y)) none.0 ∙ ap pos (omega (arith, none.1))
      | inr some ↦ ap (λ r. from_remainder true (neg_ℤ (pos r)) (absolute y)) (some.0 ∙ add-one (a % unsigned_abs y)) ∙ omega (arith, ints, some.1)
    ]

-- an operation whose result is z, where the code gives r
given : (y z r : ℤ) → FitsSigned w64 y → (cast_unsigned w64 y ≡ 0 → ⊥) → FitsSigned w64 r → r ≡ z → Some (to_z w64 (of_z w64 r)) ≡ divided_by y z
given y z r fits nonzero fits_r is =
    ap Some (to_z-of_z w64 r fits_r) ∙ sym (within-fits r fits_r) ∙ ap within is ∙ divided_by-nonzero y z fits (λ zero_y. nonzero (ap (cast_unsigned w64) zero_y))

pub given-remainder : (x y r : ℤ) → FitsSigned w64 y → (cast_unsigned w64 y ≡ 0 → ⊥) → FitsSigned w64 r → r ≡ int_rem x y → Some (to_z w64 (of_z w64 r)) ≡ divided_by y (remainder x y)
given-remainder x y r fits nonzero fits_r is = given y (remainder x y) r fits nonzero fits_r (is ∙ sym (remainder-is x y))

pub given-modulus : (x y r : ℤ) → FitsSigned w64 y → (cast_unsigned w64 y ≡ 0 → ⊥) → FitsSigned w64 r → r ≡ int_rem_euclid x y → Some (to_z w64 (of_z w64 r)) ≡ divided_by y (modulus x y)
given-modulus x y r fits nonzero fits_r is = elim (zero-or-divisor y fits) [
  | inl none ↦ absurd (nonzero (ap (cast_unsigned w64) none.1))
  | inr other ↦ given y (modulus x y) r fits nonzero fits_r (is ∙ sym (modulus-is x y other.2))
]

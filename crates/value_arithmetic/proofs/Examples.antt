-- What arithmetic gives, by examples (ES 201 873-1, 7.1.1).
use Rattle.std.proofs.Common.{◌≡◌, refl, Some, None}
use Rattle.std.specs.Prelude.{ℤ, pos, neg_ℤ, ◌-ℤ◌}
use Rattle.value_arithmetic.specs.Integers.{calculated, modulus, within}
use Rattle.ttcn_syntax.specs.declared.operator.Operator.TheVariants as operator

abbrev minus : ℤ → ℤ
minus z = neg_ℤ z

abbrev least_integer : ℤ
least_integer = minus (pos 9223372036854775807) -ℤ pos 1

-- division drops the fraction, and what it leaves has the sign of what is divided
quotient-of-a-negative : calculated operator.Divide (minus (pos 7)) (pos 2) ≡ Some (minus (pos 3))
unfolding within modulus
quotient-of-a-negative = refl

remainder-of-a-negative : calculated operator.Rem (minus (pos 7)) (pos 2) ≡ Some (minus (pos 1))
unfolding within modulus
remainder-of-a-negative = refl

remainder-by-a-negative : calculated operator.Rem (pos 7) (minus (pos 2)) ≡ Some (pos 1)
unfolding within modulus
remainder-by-a-negative = refl

-- `mod` is never below 0
modulus-of-a-negative : calculated operator.Mod (minus (pos 7)) (pos 2) ≡ Some (pos 1)
unfolding within modulus
modulus-of-a-negative = refl

modulus-by-a-negative : calculated operator.Mod (pos 7) (minus (pos 2)) ≡ Some (pos 1)
unfolding within modulus
modulus-by-a-negative = refl

modulus-without-rest : calculated operator.Mod (minus (pos 6)) (pos 3) ≡ Some (pos 0)
unfolding within modulus
modulus-without-rest = refl

-- only the result must be an integer
least-by-minus-one-leaves-nothing : calculated operator.Rem least_integer (minus (pos 1)) ≡ Some (pos 0)
unfolding within modulus
least-by-minus-one-leaves-nothing = refl

least-by-minus-one : calculated operator.Divide least_integer (minus (pos 1)) ≡ None
unfolding within modulus
least-by-minus-one = refl

sum-beyond-the-greatest : calculated operator.Add (pos 9223372036854775807) (pos 1) ≡ None
unfolding within modulus
sum-beyond-the-greatest = refl

divisor-zero : calculated operator.Mod (pos 1) (pos 0) ≡ None
unfolding within modulus
divisor-zero = refl

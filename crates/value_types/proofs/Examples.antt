-- Which numbers a range bounds (ES 201 873-1, 15 and annex B), and what operators give (7.1), by examples.
use Rattle.std.proofs.Common.{◌≡◌, refl, true, false, Some, None}
use Rattle.std.specs.Prelude.{pos, neg_ℤ}
use Rattle.ttcn_syntax.specs.declared.operator.Operator.TheVariants as operator
use Rattle.value_arithmetic.specs.Integers.{calculated}
use Rattle.value_types.specs.Matching.{in_range}
use Rattle.value_types.specs.Operations.{fitting, logical, ordered, truth}
use Rattle.value_types.specs.Outcomes.{dynamic_error, unmet}
use Rattle.value_types.specs.Readings.{read}

-- `(0 .. infinity)`
without-upper-bound : in_range (Some (pos 0)) None (Some (pos 5)) ≡ true
without-upper-bound = refl

below-the-lower-bound : in_range (Some (pos 0)) None (Some (neg_ℤ (pos 1))) ≡ false
below-the-lower-bound = refl

-- `(1 .. 3)`: both ends belong to it
upper-end : in_range (Some (pos 1)) (Some (pos 3)) (Some (pos 3)) ≡ true
upper-end = refl

above-the-upper-bound : in_range (Some (pos 1)) (Some (pos 3)) (Some (pos 4)) ≡ false
above-the-upper-bound = refl

-- what is no integer is in no range
no-integer : in_range None None None ≡ false
no-integer = refl

-- ---- outcomes

-- `1 < 2`
less : ordered operator.Less (pos 1) (pos 2) ≡ truth true
less = refl

-- `1 / 0`
divided-by-zero : fitting (calculated operator.Divide (pos 1) (pos 0)) ≡ dynamic_error
divided-by-zero = refl

-- what is read of a field without value
no-value : read None ≡ dynamic_error
no-value = refl

-- no module has `true < false`: an order is none between booleans
no-order : logical operator.Less true false ≡ unmet
no-order = refl

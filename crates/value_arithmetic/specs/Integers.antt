-- Arithmetic on integers (ES 201 873-1, 7.1.1): computed as whole numbers without limit. An integer has 64 bits, by this tool's choice: a result that is none is a dynamic error.
use Rattle.std.specs.Prelude.{ℤ, pos, ◌+ℤ◌, ◌-ℤ◌, ◌*ℤ◌, neg_ℤ, Bool, ◌||◌, not, if◌then◌else◌, Option, Some, None, unsigned_abs, int_lt, int_div}
use Rattle.std.specs.Ordering.{int_eq}
use Rattle.ttcn_syntax.specs.declared.operator.Operator.{Operator}
use Rattle.ttcn_syntax.specs.declared.operator.Operator.TheVariants as operator

-- a whole number is an integer: from -9223372036854775808 to 9223372036854775807
abbrev pub is_integer : ℤ → Bool
is_integer z = not (int_lt z (neg_ℤ (pos 9223372036854775808)) || int_lt (pos 9223372036854775807) z)

-- a whole number, where it is an integer
unfoldable pub within : ℤ → Option ℤ
within z = if is_integer z then Some z else None

-- what is divided by y: a dynamic error where y is 0
abbrev pub divided_by : ℤ → ℤ → Option ℤ
divided_by y z = if int_eq y (pos 0) then None else within z

-- `x rem y`, where `x / y` drops the fraction
abbrev pub remainder : ℤ → ℤ → ℤ
remainder x y = x -ℤ y *ℤ int_div x y

-- the number without its sign
abbrev pub absolute : ℤ → ℤ
absolute z = pos (unsigned_abs z)

-- `x mod y`
unfoldable pub modulus : ℤ → ℤ → ℤ
modulus x y =
    let left = remainder x (absolute y) in
    if not (int_lt x (pos 0)) || int_eq left (pos 0) then left else absolute y +ℤ left

-- what an operator of arithmetic gives
abbrev pub calculated : Operator → ℤ → ℤ → Option ℤ
calculated operator.Add x y = within (x +ℤ y)
calculated operator.Subtract x y = within (x -ℤ y)
calculated operator.Multiply x y = within (x *ℤ y)
calculated operator.Divide x y = divided_by y (int_div x y)
calculated operator.Rem x y = divided_by y (remainder x y)
calculated operator.Mod x y = divided_by y (modulus x y)
calculated _ x y = None

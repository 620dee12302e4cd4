-- What the operators give (ES 201 873-1, 7.1). Each expression has a meaning: operands that an operator doesn't take are met by no checked module.
use Rattle.std.specs.Prelude.{ℤ, neg_ℤ, Bool, true, false, ◌&&◌, ◌||◌, not, Option, Some, None, int_lt, if◌then◌else◌}
use mathlib.Core.Bool.{beq}
use Rattle.ttcn_syntax.specs.declared.operator.Operator.{Operator}
use Rattle.ttcn_syntax.specs.declared.operator.Operator.TheVariants as operator
use Rattle.ttcn_syntax.specs.declared.operator.Sign.{Sign}
use Rattle.ttcn_syntax.specs.declared.operator.Sign.TheVariants as sign
use Rattle.value_arithmetic.specs.Integers.{calculated, within}
use Rattle.value_types.specs.Outcomes.{Outcome, Yields, dynamic_error, or_error, or_unmet, outcome_and_then, outcome_map, unmet}
use Rattle.value_types.specs.Values.{boolean, equal, integer, is_complete}
use Rattle.value_types.specs.declared.value.Value.{Value}
use Rattle.value_types.specs.declared.value.Value.TheVariants as value

-- an integer as a value: a dynamic error where there is none
abbrev pub fitting : Option ℤ → Outcome Value
fitting found = outcome_map value.Integer (or_error found)

-- a boolean as the value that an operator gives
abbrev pub truth : Bool → Outcome Value
truth b = Yields (value.Boolean b)

-- ---- one operand

-- `not`
abbrev pub negated : Value → Outcome Value
negated v = outcome_and_then (λ b. truth (not b)) (or_unmet (boolean v))

-- an integer with a sign before it: none where the negated one is no integer any more
abbrev pub with_sign : Sign → ℤ → Option ℤ
with_sign sign.Plus z = Some z
with_sign sign.Minus z = within (neg_ℤ z)

-- a sign before a value
abbrev pub under_sign : Sign → Value → Outcome Value
under_sign s v = outcome_and_then (λ z. fitting (with_sign s z)) (or_unmet (integer v))

-- ---- two operands

-- an order between integers
abbrev pub ordered : Operator → ℤ → ℤ → Outcome Value
ordered operator.Less x y = truth (int_lt x y)
ordered operator.Greater x y = truth (int_lt y x)
ordered operator.LessEqual x y = truth (not (int_lt y x))
ordered operator.GreaterEqual x y = truth (not (int_lt x y))
ordered _ x y = unmet

-- logic on booleans
abbrev pub logical : Operator → Bool → Bool → Outcome Value
logical operator.Or a b = truth (a || b)
logical operator.And a b = truth (a && b)
logical operator.Xor a b = truth (not (beq a b))
logical _ a b = unmet

-- two values of any one type: a dynamic error where one lacks something, even where others of their parts differ
abbrev pub compared : Bool → Value → Value → Outcome Value
compared wanted v w = if is_complete v && is_complete w then truth (beq wanted (equal v w)) else dynamic_error

-- what an operator gives of two operands, where both are of the type that the operator takes
abbrev pub both : {A : Type 0} → (A → A → Outcome Value) → Option A → Option A → Outcome Value
both f a b = outcome_and_then (λ x. outcome_and_then (f x) (or_unmet b)) (or_unmet a)

-- what an operator gives between two values
abbrev pub applied : Operator → Value → Value → Outcome Value
applied operator.Equal v w = compared true v w
applied operator.NotEqual v w = compared false v w
applied operator.Or v w = both (logical operator.Or) (boolean v) (boolean w)
applied operator.Xor v w = both (logical operator.Xor) (boolean v) (boolean w)
applied operator.And v w = both (logical operator.And) (boolean v) (boolean w)
applied operator.Less v w = both (ordered operator.Less) (integer v) (integer w)
applied operator.Greater v w = both (ordered operator.Greater) (integer v) (integer w)
applied operator.LessEqual v w = both (ordered operator.LessEqual) (integer v) (integer w)
applied operator.GreaterEqual v w = both (ordered operator.GreaterEqual) (integer v) (integer w)
applied op v w = both (λ x y. fitting (calculated op x y)) (integer v) (integer w)

-- a boolean is there and is the one that is asked for
abbrev pub is_truth : Bool → Option Bool → Bool
is_truth wanted None = false
is_truth wanted (Some b) = beq wanted b

-- the left side of `and` or `or` decides by itself
abbrev pub decides : Operator → Value → Bool
decides operator.And v = is_truth false (boolean v)
decides operator.Or v = is_truth true (boolean v)
decides _ v = false

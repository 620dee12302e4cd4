-- Levels of operators as numbers, for the measure of the recursion.
use Rattle.std.specs.Prelude.{ℕ}
use Rattle.ttcn_syntax.specs.declared.operator.Level.{Level}
use Rattle.ttcn_syntax.specs.declared.operator.Level.TheVariants.{Or, Xor, And, Not, Equality, Order, Sum, Product, Sign}

-- how many steps a level is above the operands that have no operator
abbrev pub rank_of : Level → ℕ
rank_of Or = 20
rank_of Xor = 18
rank_of And = 16
rank_of Not = 14
rank_of Equality = 12
rank_of Order = 10
rank_of Sum = 8
rank_of Product = 6
rank_of Sign = 4

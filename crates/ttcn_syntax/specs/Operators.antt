-- Operators: how each is written, and at which level it binds (ES 201 873-1, section 7.1, precedence of operators).
use Rattle.std.specs.Prelude.{Option, Some, None}
use Rattle.ttcn_syntax.specs.declared.operator.Level.{Level}
use Rattle.ttcn_syntax.specs.declared.operator.Level.TheVariants as level
use Rattle.ttcn_syntax.specs.declared.operator.Operator.{Operator}
use Rattle.ttcn_syntax.specs.declared.operator.Operator.TheVariants as operator
use Rattle.ttcn_syntax.specs.declared.token.Symbol.{Symbol}
use Rattle.ttcn_syntax.specs.declared.token.Symbol.TheVariants as mark
use Rattle.ttcn_syntax.specs.declared.token.Token.{Token}
use Rattle.ttcn_syntax.specs.declared.token.Token.TheVariants as token
use Rattle.ttcn_syntax.specs.declared.token.Word.{Word}
use Rattle.ttcn_syntax.specs.declared.token.Word.TheVariants as word

-- how an operator is written
abbrev pub written : Operator → Token
written operator.Or = token.Word word.Or
written operator.Xor = token.Word word.Xor
written operator.And = token.Word word.And
written operator.Equal = token.Symbol mark.Equal
written operator.NotEqual = token.Symbol mark.NotEqual
written operator.Less = token.Symbol mark.Less
written operator.Greater = token.Symbol mark.Greater
written operator.LessEqual = token.Symbol mark.LessEqual
written operator.GreaterEqual = token.Symbol mark.GreaterEqual
written operator.Add = token.Symbol mark.Plus
written operator.Subtract = token.Symbol mark.Minus
written operator.Multiply = token.Symbol mark.Star
written operator.Divide = token.Symbol mark.Slash
written operator.Mod = token.Word word.Mod
written operator.Rem = token.Word word.Rem

-- the level at which an operator binds
abbrev pub level_of : Operator → Level
level_of operator.Or = level.Or
level_of operator.Xor = level.Xor
level_of operator.And = level.And
level_of operator.Equal = level.Equality
level_of operator.NotEqual = level.Equality
level_of operator.Less = level.Order
level_of operator.Greater = level.Order
level_of operator.LessEqual = level.Order
level_of operator.GreaterEqual = level.Order
level_of operator.Add = level.Sum
level_of operator.Subtract = level.Sum
level_of operator.Multiply = level.Product
level_of operator.Divide = level.Product
level_of operator.Mod = level.Product
level_of operator.Rem = level.Product

-- operators of the first level stand between operands of the second
pub data Joins : Level → Level → Type 0 where
  or_joins : Joins level.Or level.Xor
  xor_joins : Joins level.Xor level.And
  and_joins : Joins level.And level.Not
  equality_joins : Joins level.Equality level.Order
  order_joins : Joins level.Order level.Sum
  sum_joins : Joins level.Sum level.Product
  product_joins : Joins level.Product level.Sign

-- the operator that a token is
abbrev pub word_operator : Word → Option Operator
word_operator word.Or = Some operator.Or
word_operator word.Xor = Some operator.Xor
word_operator word.And = Some operator.And
word_operator word.Mod = Some operator.Mod
word_operator word.Rem = Some operator.Rem
word_operator _ = None

abbrev pub symbol_operator : Symbol → Option Operator
symbol_operator mark.Equal = Some operator.Equal
symbol_operator mark.NotEqual = Some operator.NotEqual
symbol_operator mark.Less = Some operator.Less
symbol_operator mark.Greater = Some operator.Greater
symbol_operator mark.LessEqual = Some operator.LessEqual
symbol_operator mark.GreaterEqual = Some operator.GreaterEqual
symbol_operator mark.Plus = Some operator.Add
symbol_operator mark.Minus = Some operator.Subtract
symbol_operator mark.Star = Some operator.Multiply
symbol_operator mark.Slash = Some operator.Divide
symbol_operator _ = None

abbrev pub operator_of : Token → Option Operator
operator_of (token.Word w) = word_operator w
operator_of (token.Symbol s) = symbol_operator s
operator_of _ = None

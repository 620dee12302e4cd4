-- What is read as declarations of variables, constants and timers.
use Rattle.std.specs.Prelude.{if◌then◌else◌, List, Option, Some, None}
use Rattle.ttcn_syntax.specs.declared.token.Symbol.TheVariants as mark
use Rattle.ttcn_syntax.specs.declared.token.Token.{Token}
use Rattle.ttcn_syntax.specs.declared.token.Token.TheVariants as token
use Rattle.ttcn_syntax.specs.declared.token.Word.TheVariants as word
use Rattle.ttcn_syntax.specs.declared.tree.statement.Constant.{Constant}
use Rattle.ttcn_syntax.specs.declared.tree.statement.Constants.{Constants}
use Rattle.ttcn_syntax.specs.declared.tree.statement.Timer.{Timer}
use Rattle.ttcn_syntax.specs.declared.tree.statement.Variable.{Variable}
use Rattle.ttcn_syntax.specs.declared.tree.statement.Variables.{Variables}
use Rattle.parse_reader.specs.internal.Reading.{Parser, pure, eat, expect, expect_word, token_by, name, separated, ◌>>=◌, ◌>>◌}
use Rattle.parse_reader.specs.internal.Values.{a_type, a_value, a_rhs}

-- [':=' X]
unfoldable pub initial : {A : Type 0} → Parser A → Parser (Option A)
initial p = do
  found ← eat mark.Assign
  if found then (do a ← p; pure (Some a)) else pure None

-- Id [':=' Rhs]
unfoldable pub variable : Parser Variable
variable = do
  bytes ← name
  v ← initial a_rhs
  pure (record { name = bytes; value = v })

-- 'var' Type Variable {',' Variable}
unfoldable pub variables : Parser Variables
variables = do
  expect_word word.Var
  n ← a_type
  vs ← separated variable
  pure (record { type_name = n; variables = vs })

-- Id ':=' Value
unfoldable pub constant : Parser Constant
constant = do
  bytes ← name
  expect mark.Assign
  v ← a_value
  pure (record { name = bytes; value = v })

-- 'const' Type Constant {',' Constant}
unfoldable pub constants : Parser Constants
constants = do
  expect_word word.Const
  n ← a_type
  cs ← separated constant
  pure (record { type_name = n; constants = cs })

-- a float, whose digits have no effect
abbrev pub float_of : Option Token → Option (Unit {0})
float_of (Some token.Float) = Some tt
float_of _ = None

-- a float
unfoldable pub float : Parser (Unit {0})
float = token_by float_of

-- Id [':=' Float]
unfoldable pub timer : Parser Timer
timer = do
  bytes ← name
  initial float
  pure (record { name = bytes })

-- 'timer' Timer {',' Timer}
unfoldable pub timers : Parser (List Timer)
timers = do
  expect_word word.Timer
  separated timer

-- What is read as types, values, calls, and what stands on the right of `:=`.
use Rattle.std.specs.Prelude.{ℕ, zero, suc, ◌&&◌, Bool, if◌then◌else◌, List, length, Option, Some, None}
use Rattle.ttcn_syntax.specs.declared.token.Symbol.TheVariants as mark
use Rattle.ttcn_syntax.specs.declared.token.Token.{Token}
use Rattle.ttcn_syntax.specs.declared.token.Token.TheVariants as token
use Rattle.ttcn_syntax.specs.declared.token.Spanned.{Spanned}
use Rattle.ttcn_syntax.specs.declared.token.Word.TheVariants as word
use Rattle.ttcn_syntax.specs.declared.tree.value.Call.{Call}
use Rattle.ttcn_syntax.specs.declared.tree.value.FieldValue.{FieldValue}
use Rattle.ttcn_syntax.specs.declared.tree.value.Rhs.{Rhs}
use Rattle.ttcn_syntax.specs.declared.tree.value.Rhs.TheVariants as rhs
use Rattle.ttcn_syntax.specs.declared.tree.value.TypeName.{TypeName}
use Rattle.ttcn_syntax.specs.declared.tree.value.TypeName.TheVariants as type_name
use Rattle.ttcn_syntax.specs.declared.tree.value.Value.{Value}
use Rattle.ttcn_syntax.specs.declared.tree.value.Value.TheVariants as value
use Rattle.parse_reader.specs.Trees.{field_value}
use Rattle.parse_reader.specs.internal.Reading.{Parser, pure, refuse, head_token, is_symbol, is_word, sees_word, behind, expect, expect_word, token_by, name, second, separated, separated_until, is_name, ◌>>=◌, ◌>>◌}
use Rattle.parse_reader.specs.internal.Expressions.{expression}

-- the type that a token names
abbrev pub type_by : Option Token → Option TypeName
type_by (Some (token.Word word.Integer)) = Some type_name.Integer
type_by (Some (token.Word word.Boolean)) = Some type_name.Boolean
type_by (Some (token.Word word.Default)) = Some type_name.Default
type_by (Some (token.Id bytes)) = Some (type_name.Named bytes)
type_by _ = None

-- a type
unfoldable pub a_type : Parser TypeName
a_type = token_by type_by

-- a name and ':=' come next
unfoldable pub assigns : List Spanned → Bool
assigns ts = is_name (head_token ts) && is_symbol mark.Assign (second ts)

-- Id ':=' Value
unfoldable pub field_value_by : Parser Value → Parser FieldValue
field_value_by p = do
  bytes ← name
  expect mark.Assign
  v ← p
  pure (field_value bytes v)

-- a record literal, whose values are read by `inner`
unfoldable pub braced_value : Parser Value → Parser Value
braced_value inner = do
  expect mark.LeftBrace
  λ ts. if assigns ts
      then (do
        fs ← separated (field_value_by inner)
        expect mark.RightBrace
        pure (value.Assigned fs)) ts
      else (do
        vs ← separated_until mark.RightBrace inner
        pure (value.Listed vs)) ts

-- an expression as a value
unfoldable pub value_expression : Parser Value
value_expression = do
  e ← expression
  pure (value.Expr e)

-- a value, by its first token
abbrev pub value_by : Parser Value → Option Token → Parser Value
value_by inner (Some (token.Word word.Omit)) = λ ts. Some (value.Omit, behind ts)
value_by inner (Some (token.Symbol mark.LeftBrace)) = braced_value inner
value_by inner _ = value_expression

-- a value, where so many braces may still nest
unfoldable pub value_in : ℕ → Parser Value
value_in zero ts = value_by refuse (head_token ts) ts
value_in (suc depth) ts = value_by (value_in depth) (head_token ts) ts

-- a value within braces, of which so many may nest
unfoldable pub value_below : ℕ → Parser Value
value_below zero = refuse
value_below (suc depth) = value_in depth

-- a value, whose brackets nest no deeper than there are tokens
unfoldable pub a_value : Parser Value
a_value = λ ts. value_in (length ts) ts

-- Id '(' [Value {',' Value}] ')'
unfoldable pub call : Parser Call
call = do
  bytes ← name
  expect mark.LeftParen
  vs ← separated_until mark.RightParen a_value
  pure (record { name = bytes; arguments = vs })

-- a name and '(' come next
unfoldable pub calls : List Spanned → Bool
calls ts = is_name (head_token ts) && is_symbol mark.LeftParen (second ts)

-- a name, a dot and 'create' come next
unfoldable pub creates : List Spanned → Bool
creates ts = is_name (head_token ts) && (is_symbol mark.Dot (second ts) && is_word word.Create (second (behind ts)))

-- 'activate' '(' Id Args ')'
unfoldable pub activation : Parser Call
activation = do
  expect_word word.Activate
  expect mark.LeftParen
  c ← call
  expect mark.RightParen
  pure c

-- what stands on the right of ':=': a call, 'create', 'activate' or a value
unfoldable pub a_rhs : Parser Rhs
a_rhs = λ ts. if calls ts then (do c ← call; pure (rhs.Call c)) ts
    else if creates ts then (do bytes ← name; expect mark.Dot; expect_word word.Create; pure (rhs.Create bytes)) ts
    else if sees_word word.Activate ts then (do c ← activation; pure (rhs.Activate c)) ts
    else (do v ← a_value; pure (rhs.Value v)) ts

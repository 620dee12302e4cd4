-- What is read as modules, and what leaves no trace in their tree.
use Rattle.std.specs.Prelude.{◌≡◌, ℕ, ◌||◌, Bool, if◌then◌else◌, List, [], ◌∷◌, Option, Some, None, Result, Ok, Err}
use Rattle.ttcn_syntax.specs.declared.token.Symbol.{Symbol}
use Rattle.ttcn_syntax.specs.declared.token.Symbol.TheVariants as mark
use Rattle.ttcn_syntax.specs.declared.token.Token.{Token}
use Rattle.ttcn_syntax.specs.declared.token.Token.TheVariants as token
use Rattle.ttcn_syntax.specs.declared.token.Spanned.{Spanned}
use Rattle.ttcn_syntax.specs.declared.token.Word.TheVariants as word
use Rattle.ttcn_syntax.specs.declared.tree.definition.Definition.{Definition}
use Rattle.ttcn_syntax.specs.declared.tree.definition.Module.{Module}
use Rattle.parse_limits.specs.Groups.{closes, partner}
use Rattle.parse_reader.specs.declared.error.ParseError.{ParseError}
use Rattle.parse_reader.specs.declared.error.ParseError.TheVariants.{TooDeep, LeftOut, Unexpected, Memory}
use Rattle.parse_reader.specs.internal.Reading.{Parsed, Parser, pure, same_symbol, sees, sees_word, eat_word, expect, expect_word, token_by, name, skip_semicolons, separated, items, ◌>>=◌, ◌>>◌}
use Rattle.parse_reader.specs.internal.Definitions.{definition}

-- a text, whose content has no effect
abbrev pub text_of : Option Token → Option (Unit {0})
text_of (Some token.Text) = Some tt
text_of _ = None

-- a text
unfoldable pub text : Parser (Unit {0})
text = token_by text_of

-- of the brackets still to be closed, innermost first, those that a closing one leaves, where it closes the innermost
abbrev pub closes_one : List Symbol → Symbol → Option (List Symbol)
closes_one [] s = None
closes_one (c ∷ others) s = if same_symbol s c then Some others else None

-- what is left, if the bracket fits
abbrev pub left_if : Bool → List Symbol → Option (List Symbol)
left_if b expected = if b then Some expected else None

-- the brackets that are still to be closed behind a token
abbrev pub over_bracket : List Symbol → Option Symbol → Symbol → Option (List Symbol)
over_bracket expected (Some c) s = Some (c ∷ expected)
over_bracket expected None s = if closes (token.Symbol s) then closes_one expected s else Some expected

-- the brackets that are still to be closed behind a token of any kind
abbrev pub over_token : List Symbol → Token → Option (List Symbol)
over_token expected (token.Symbol s) = over_bracket expected (partner s) s
over_token expected _ = Some expected

-- the tokens behind the bracket that closes the last, or what is read of the others
abbrev pub go_on : (List Symbol → Parsed (Unit {0})) → Option (List Symbol) → List Spanned → Parsed (Unit {0})
go_on others None ts = None
go_on others (Some []) ts = Some (tt, ts)
go_on others (Some (c ∷ cs)) ts = others (c ∷ cs)

-- what the code ensures that goes over a token
abbrev pub Goes : Option (List Symbol) → Result (Unit {0}) ParseError → List Symbol → Type 0
Goes next (Ok done) expected = next ≡ Some expected
Goes next (Err (Unexpected place)) expected = next ≡ None
Goes next (Err Memory) expected = Unit {0}
Goes next (Err (TooDeep place)) expected = ⊥
Goes next (Err (LeftOut place)) expected = ⊥

-- tokens to the bracket that closes the last of those that are expected
unfoldable pub balanced_from : List Symbol → Parser (Unit {0})
balanced_from expected [] = None
balanced_from expected (k ∷ ts) = go_on (λ cs. balanced_from cs ts) (over_token expected k.token) ts

-- '{' tokens with balanced brackets '}'
unfoldable pub group : Parser (Unit {0})
group = do
  expect mark.LeftBrace
  balanced_from (mark.RightBrace ∷ [])

-- ['with' Group]
unfoldable pub with_ : Parser (Unit {0})
with_ = do
  found ← eat_word word.With
  if found then group else pure tt

-- ['language' Text {',' Text}]
unfoldable pub language : Parser (Unit {0})
language = do
  found ← eat_word word.Language
  if found then (do separated text; pure tt) else pure tt

-- ['control' Group ['with' Group] {';'}]
unfoldable pub control : Parser (Unit {0})
control = do
  found ← eat_word word.Control
  if found then (do group; with_; skip_semicolons) else pure tt

-- a definition and its ignored attributes
unfoldable pub definition_with : Parser Definition
definition_with = do
  d ← definition
  with_
  pure d

-- the definitions end before 'control' or the last brace
abbrev pub at_last : List Spanned → Bool
at_last ts = sees mark.RightBrace ts || sees_word word.Control ts

-- no token is left
unfoldable pub at_end : Parser (Unit {0})
at_end [] = Some (tt, [])
at_end (k ∷ ts) = None

-- a module up to its definitions
unfoldable pub module_head : Parser (List ℕ)
module_head = do
  expect_word word.Module
  bytes ← name
  language
  expect mark.LeftBrace
  skip_semicolons
  pure bytes

-- a module behind its definitions
unfoldable pub module_end : Parser (Unit {0})
module_end = do
  control
  expect mark.RightBrace
  with_
  skip_semicolons
  at_end

-- a module, to the last token
unfoldable pub whole : Parser Module
whole = do
  expect_word word.Module
  bytes ← name
  language
  expect mark.LeftBrace
  skip_semicolons
  ds ← items at_last definition_with
  control
  expect mark.RightBrace
  with_
  skip_semicolons
  at_end
  pure (record { name = bytes; definitions = ds })

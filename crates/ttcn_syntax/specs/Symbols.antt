-- The symbols: how each is spelled (ES 201 873-1, annex A).
use Rattle.std.specs.Prelude.{ℕ, List, ◌==◌, ◌&&◌, if◌then◌else◌, codes, Option, Some, None}
use Rattle.ttcn_syntax.specs.declared.token.Symbol.{Symbol}
use Rattle.ttcn_syntax.specs.declared.token.Symbol.TheVariants as mark

-- how a symbol is spelled
abbrev pub symbol_spelling : Symbol → List ℕ
symbol_spelling mark.Assign = codes ":="
symbol_spelling mark.Arrow = codes "->"
symbol_spelling mark.DotDot = codes ".."
symbol_spelling mark.Equal = codes "=="
symbol_spelling mark.NotEqual = codes "!="
symbol_spelling mark.LessEqual = codes "<="
symbol_spelling mark.GreaterEqual = codes ">="
symbol_spelling mark.LeftBrace = codes "{"
symbol_spelling mark.RightBrace = codes "}"
symbol_spelling mark.LeftParen = codes "("
symbol_spelling mark.RightParen = codes ")"
symbol_spelling mark.LeftBracket = codes "["
symbol_spelling mark.RightBracket = codes "]"
symbol_spelling mark.Comma = codes ","
symbol_spelling mark.Semicolon = codes ";"
symbol_spelling mark.Dot = codes "."
symbol_spelling mark.Colon = codes ":"
symbol_spelling mark.Plus = codes "+"
symbol_spelling mark.Minus = codes "-"
symbol_spelling mark.Star = codes "*"
symbol_spelling mark.Slash = codes "/"
symbol_spelling mark.Less = codes "<"
symbol_spelling mark.Greater = codes ">"
symbol_spelling mark.Question = codes "?"

-- the symbol that two bytes spell
abbrev pub pair_symbol : ℕ → ℕ → Option Symbol
pair_symbol a b =
    if (a == 58) && (b == 61) then Some mark.Assign else
    if (a == 45) && (b == 62) then Some mark.Arrow else
    if (a == 46) && (b == 46) then Some mark.DotDot else
    if (a == 61) && (b == 61) then Some mark.Equal else
    if (a == 33) && (b == 61) then Some mark.NotEqual else
    if (a == 60) && (b == 61) then Some mark.LessEqual else
    if (a == 62) && (b == 61) then Some mark.GreaterEqual else
    None

-- the symbol that one byte spells
abbrev pub single_symbol : ℕ → Option Symbol
single_symbol a =
    if a == 123 then Some mark.LeftBrace else
    if a == 125 then Some mark.RightBrace else
    if a == 40 then Some mark.LeftParen else
    if a == 41 then Some mark.RightParen else
    if a == 91 then Some mark.LeftBracket else
    if a == 93 then Some mark.RightBracket else
    if a == 44 then Some mark.Comma else
    if a == 59 then Some mark.Semicolon else
    if a == 46 then Some mark.Dot else
    if a == 58 then Some mark.Colon else
    if a == 43 then Some mark.Plus else
    if a == 45 then Some mark.Minus else
    if a == 42 then Some mark.Star else
    if a == 47 then Some mark.Slash else
    if a == 60 then Some mark.Less else
    if a == 62 then Some mark.Greater else
    if a == 63 then Some mark.Question else
    None

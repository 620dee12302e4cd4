-- What the parser's functions compute, each from the tokens that are left: parsers, single tokens and lists. The language
-- is defined by the grammar, which `parse_grammar` proves to be what these read.
use Rattle.std.specs.Prelude.{◌≡◌, ℕ, zero, suc, ◌-◌, ◌||◌, Bool, true, false, if◌then◌else◌, List, [], ◌∷◌, ◌++◌, length, drop, Option, Some, None, Result, Ok, Err}
use Rattle.std.specs.Borrow.{Bor}
use denote.Enum.Bare.{sameb}
use Rattle.ttcn_syntax.specs.contracts.token.Symbol as a_symbol
use Rattle.ttcn_syntax.specs.contracts.token.Word as a_word
use Rattle.ttcn_syntax.specs.contracts.operator.Level as a_level
use Rattle.ttcn_syntax.specs.declared.place.Span.{Span}
use Rattle.ttcn_syntax.specs.declared.operator.Level.{Level}
use Rattle.ttcn_syntax.specs.declared.token.Symbol.{Symbol}
use Rattle.ttcn_syntax.specs.declared.token.Symbol.TheVariants as mark
use Rattle.ttcn_syntax.specs.declared.token.Token.{Token}
use Rattle.ttcn_syntax.specs.declared.token.Token.TheVariants as token
use Rattle.ttcn_syntax.specs.declared.token.Spanned.{Spanned}
use Rattle.ttcn_syntax.specs.declared.token.Word.{Word}
use Rattle.parse_reader.specs.declared.error.ParseError.{ParseError}
use Rattle.parse_reader.specs.declared.error.ParseError.TheVariants.{TooDeep, LeftOut, Unexpected, Memory}

-- ---- parsers: what is read, and the tokens behind it, or nothing

-- what is read and the tokens behind it, or nothing
abbrev pub Parsed : Type 0 → Type 0
Parsed A = Option (A × List Spanned)

-- a parser: what is read of the tokens that are left
abbrev pub Parser : Type 0 → Type 0
Parser A = List Spanned → Parsed A

-- what is read next, where something was read
abbrev pub and_then : {A B : Type 0} → Parsed A → (A → Parser B) → Parsed B
and_then (Some p) f = f p.0 p.1
and_then None f = None

-- one parser and then another, which knows what the first read
infixl 10 ◌>>=◌
abbrev pub ◌>>=◌ : {A B : Type 0} → Parser A → (A → Parser B) → Parser B
p >>= f = λ ts. and_then (p ts) f

-- one parser and then another, which doesn't know what the first read
infixl 10 ◌>>◌
abbrev pub ◌>>◌ : {A B : Type 0} → Parser A → Parser B → Parser B
p >> q = p >>= (λ _. q)

-- reads no token and gives this
abbrev pub pure : {A : Type 0} → A → Parser A
pure a = λ ts. Some (a, ts)

-- reads nothing
abbrev pub refuse : {A : Type 0} → Parser A
refuse = λ ts. None

-- what a function that parses ensures, unless memory fails
abbrev pub Refuses : {A : Type 0} → Parsed A → ParseError → Type 0
Refuses parsed (Unexpected place) = parsed ≡ None
Refuses parsed Memory = Unit {0}
Refuses parsed (TooDeep place) = ⊥
Refuses parsed (LeftOut place) = ⊥

-- what a function that parses ensures of its answer and of the tokens that it leaves
abbrev pub Reads : {A : Type 0} → Parsed A → Result A ParseError → List Spanned → Type 0
Reads parsed (Ok a) rest = parsed ≡ Some (a, rest)
Reads parsed (Err e) rest = Refuses parsed e

-- the error says that the next token doesn't fit
abbrev pub IsUnexpected : ParseError → Type 0
IsUnexpected (Unexpected place) = Unit {0}
IsUnexpected Memory = ⊥
IsUnexpected (TooDeep place) = ⊥
IsUnexpected (LeftOut place) = ⊥

-- ---- single tokens

-- the next token
abbrev pub head_token : List Spanned → Option Token
head_token [] = None
head_token (k ∷ ts) = Some k.token

-- the token behind a reference
abbrev pub token_behind : Option (Bor Token) → Option Token
token_behind None = None
token_behind (Some token) = Some token.now

-- two symbols are one
unfoldable pub same_symbol : Symbol → Symbol → Bool
same_symbol = sameb a_symbol.the_type

-- two words are one
unfoldable pub same_word : Word → Word → Bool
same_word = sameb a_word.the_type

-- two levels are one
unfoldable pub same_level : Level → Level → Bool
same_level = sameb a_level.the_type

-- the token is this symbol
abbrev pub is_symbol : Symbol → Option Token → Bool
is_symbol s (Some (token.Symbol found)) = same_symbol found s
is_symbol s _ = false

-- the token is this word
abbrev pub is_word : Word → Option Token → Bool
is_word w (Some (token.Word found)) = same_word found w
is_word w _ = false

-- the symbol comes next
unfoldable pub sees : Symbol → List Spanned → Bool
sees s ts = is_symbol s (head_token ts)

-- the word comes next
unfoldable pub sees_word : Word → List Spanned → Bool
sees_word w ts = is_word w (head_token ts)

-- the tokens behind the next one
abbrev pub behind : List Spanned → List Spanned
behind ts = drop 1 ts

-- takes the symbol, if it comes next
abbrev pub eat : Symbol → Parser Bool
eat s = λ ts. Some (sees s ts, if sees s ts then behind ts else ts)

-- takes the word, if it comes next
abbrev pub eat_word : Word → Parser Bool
eat_word w = λ ts. Some (sees_word w ts, if sees_word w ts then behind ts else ts)

-- takes the symbol, which has to come next
unfoldable pub expect : Symbol → Parser (Unit {0})
expect s = λ ts. if sees s ts then Some (tt, behind ts) else None

-- takes the word, which has to come next
unfoldable pub expect_word : Word → Parser (Unit {0})
expect_word w = λ ts. if sees_word w ts then Some (tt, behind ts) else None

-- the place of the next token
unfoldable pub here : Parser Span
here [] = None
here (k ∷ ts) = Some (k.place, k ∷ ts)

-- the bytes of a name
abbrev pub name_of : Option Token → Option (List ℕ)
name_of (Some (token.Id bytes)) = Some bytes
name_of _ = None

-- what is read of a token, if anything, with the tokens behind it
abbrev pub with_rest : {A : Type 0} → Option A → Parser A
with_rest None ts = None
with_rest (Some a) ts = Some (a, ts)

-- the next token, by what it stands for
abbrev pub token_by : {A : Type 0} → (Option Token → Option A) → Parser A
token_by f ts = with_rest (f (head_token ts)) (behind ts)

-- a name
unfoldable pub name : Parser (List ℕ)
name = token_by name_of

-- the tokens behind the semicolons that come next
unfoldable pub after_semicolons : List Spanned → List Spanned
after_semicolons [] = []
after_semicolons (k ∷ ts) = if sees mark.Semicolon (k ∷ ts) then after_semicolons ts else k ∷ ts

-- takes the semicolons that come next
abbrev pub skip_semicolons : Parser (Unit {0})
skip_semicolons = λ ts. Some (tt, after_semicolons ts)

-- the token is a name
abbrev pub is_name : Option Token → Bool
is_name (Some (token.Id bytes)) = true
is_name _ = false

-- ---- what comes again

-- the token behind the next one
abbrev pub second : List Spanned → Option Token
second ts = head_token (behind ts)

-- one turn less, where one is left: what stands within brackets
unfoldable pub deeper : ℕ → Parser ℕ
deeper zero = refuse
deeper (suc depth) = pure depth

-- X {',' X}, behind those found so far
unfoldable pub separated_from : {A : Type 0} → Parser A → ℕ → List A → Parser (List A)
separated_from p zero found = refuse
separated_from p (suc n) found = do
  a ← p
  more ← eat mark.Comma
  (let all = found ++ a ∷ [] in if more then separated_from p n all else pure all)

-- X {',' X}, added to those found so far
abbrev pub separated_onto : {A : Type 0} → Parser A → List A → Parser (List A)
separated_onto p found = λ ts. separated_from p (length ts) found ts

-- X {',' X}
abbrev pub separated : {A : Type 0} → Parser A → Parser (List A)
separated p = separated_onto p []

-- [X {',' X}] and the symbol behind it
unfoldable pub separated_until : {A : Type 0} → Symbol → Parser A → Parser (List A)
separated_until close p = do
  none ← eat close
  if none then pure [] else (do
    all ← separated p
    expect close
    pure all)

-- {X {';'}}, to where they stop
unfoldable pub items_from : {A : Type 0} → (List Spanned → Bool) → Parser A → ℕ → List A → Parser (List A)
items_from stops p zero found = pure found
items_from stops p (suc n) found = λ ts. if stops ts then Some (found, ts) else and_then (p ts) (λ a rest.
    items_from stops p n (found ++ a ∷ []) (after_semicolons rest))

-- {X {';'}}, to where they stop
abbrev pub items : {A : Type 0} → (List Spanned → Bool) → Parser A → Parser (List A)
items stops p = λ ts. items_from stops p (length ts) [] ts

-- the closing brace comes next
abbrev pub at_brace : List Spanned → Bool
at_brace ts = sees mark.RightBrace ts

-- what was taken from these tokens may end here
unfoldable pub may_end : List Spanned → List Spanned → Bool
may_end before ts = sees mark.Semicolon ts || (sees mark.RightBrace ts || sees mark.RightBrace (drop (length before - length ts - 1) before))

-- X, behind which a statement or branch may end
unfoldable pub ended : {A : Type 0} → Parser A → Parser A
ended p = λ ts. and_then (p ts) (λ a rest. if may_end ts rest then Some (a, rest) else None)

-- the end of what was taken from these tokens, with the semicolons behind it
unfoldable pub end_item : List Spanned → Parser (Unit {0})
end_item before = λ ts. if may_end before ts then Some (tt, after_semicolons ts) else None

-- Brackets: how deep they nest, and groups of tokens in which they are balanced.
use Rattle.std.specs.Prelude.{◌≡◌, ℕ, ◌+◌, ◌<◌, Bool, true, false, List, ◌∷◌, Option, Some, None, take}
use Rattle.std.specs.List.{count_by}
use Rattle.ttcn_syntax.specs.declared.token.Spanned.{Spanned}
use Rattle.ttcn_syntax.specs.declared.token.Symbol.{Symbol}
use Rattle.ttcn_syntax.specs.declared.token.Symbol.TheVariants as mark
use Rattle.ttcn_syntax.specs.declared.token.Token.{Token}
use Rattle.ttcn_syntax.specs.declared.token.Token.TheVariants as token

-- the token of this place in the list is that token
abbrev pub Is : Spanned → Token → Type 0
Is k t = k.token ≡ t

-- ---- depth

-- a bracket that opens, of any of the three kinds
abbrev pub opens : Token → Bool
opens (token.Symbol mark.LeftBrace) = true
opens (token.Symbol mark.LeftParen) = true
opens (token.Symbol mark.LeftBracket) = true
opens _ = false

-- a bracket that closes
abbrev pub closes : Token → Bool
closes (token.Symbol mark.RightBrace) = true
closes (token.Symbol mark.RightParen) = true
closes (token.Symbol mark.RightBracket) = true
closes _ = false

-- how many of the tokens open a bracket
abbrev pub opened : List Spanned → ℕ
opened = count_by (λ k. opens k.token)

-- how many of the tokens close a bracket
abbrev pub closed : List Spanned → ℕ
closed = count_by (λ k. closes k.token)

-- the most brackets that may stand open in one another, this tool's choice
abbrev pub deepest : ℕ
deepest = 200

-- brackets nest too deep: some front of the tokens opens more of them than that beside those that it closes
abbrev pub IsTooDeep : List Spanned → Type 0
IsTooDeep tokens = (n : ℕ) × (deepest + closed (take n tokens) < opened (take n tokens))

-- ---- groups

-- the bracket that closes what this one opens
abbrev pub partner : Symbol → Option Symbol
partner mark.LeftBrace = Some mark.RightBrace
partner mark.LeftParen = Some mark.RightParen
partner mark.LeftBracket = Some mark.RightBracket
partner _ = None

-- any number of tokens in which each bracket has its partner, at the front of the tokens
pub data Balanced : List Spanned → List Spanned → Type 0 where
  nothing : {ts : List Spanned} → Balanced ts ts
  plain : {k : Spanned} {ts rest : List Spanned} → opens k.token ≡ false → closes k.token ≡ false → Balanced ts rest → Balanced (k ∷ ts) rest
  pair : {k c : Spanned} {opening closing : Symbol} {ts middle rest : List Spanned} → Is k (token.Symbol opening)
      → partner opening ≡ Some closing → Balanced ts (c ∷ middle) → Is c (token.Symbol closing) → Balanced middle rest → Balanced (k ∷ ts) rest

-- braces with balanced brackets inside
pub data Group : List Spanned → List Spanned → Type 0 where
  braces : {k c : Spanned} {ts rest : List Spanned} → Is k (token.Symbol mark.LeftBrace) → Balanced ts (c ∷ rest)
      → Is c (token.Symbol mark.RightBrace) → Group (k ∷ ts) rest

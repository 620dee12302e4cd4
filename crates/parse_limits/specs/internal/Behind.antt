-- What is known of the tokens behind a place, where the tokens are gone through from the last to the first.
use Rattle.std.specs.Prelude.{◌≡◌, true, List, [], ◌∷◌, Option, Some, None, reverse, MatchOption}
use Rattle.ttcn_syntax.specs.declared.place.Span.{Span}
use Rattle.ttcn_syntax.specs.declared.token.Spanned.{Spanned}
use Rattle.ttcn_syntax.specs.declared.token.Symbol.{Symbol}
use Rattle.ttcn_syntax.specs.declared.token.Token.TheVariants as token
use Rattle.parse_limits.specs.declared.limits.Behind.{Behind}
use Rattle.parse_limits.specs.declared.limits.Closing.{Closing}
use Rattle.parse_limits.specs.Groups.{Balanced, Group, Is, closes}
use Rattle.parse_limits.specs.LeftOut.{HasLeftOut}

-- something is found where the tokens have something left out
abbrev pub Finds : List Spanned → Option Span → Type 0
Finds tokens found = MatchOption found (HasLeftOut tokens → ⊥) (λ _. HasLeftOut tokens)

-- the bracket that closes and stands behind balanced tokens alone, and what is behind it
pub record FirstClosing (tokens : List Spanned) (top : Closing) (Onward : List Spanned → Type 0) : Type 0 where
  pub place : Spanned
  pub rest : List Spanned
  pub balanced : Balanced tokens (place ∷ rest)
  pub bracket : Is place (token.Symbol top.bracket)
  pub closing : closes place.token ≡ true
  pub found : Finds rest top.found
  pub onward : Onward rest

-- no bracket that closes stands behind balanced tokens alone
abbrev pub NoClosing : List Spanned → Type 0
NoClosing tokens = (place : Spanned) (rest : List Spanned) → Balanced tokens (place ∷ rest) → closes place.token ≡ true → ⊥

-- these are the brackets that close what none of the tokens opens, the first of them first, up to tokens that no brackets balance
unfoldable pub Unopened : List Closing → List Spanned → Type 0
Unopened [] tokens = NoClosing tokens
Unopened (top ∷ others) tokens = FirstClosing tokens top (Unopened others)

-- what is found behind the group that begins the tokens
abbrev pub FindsBehind : List Spanned → Option (Option Span) → Type 0
FindsBehind tokens None = (rest : List Spanned) → Group tokens rest → ⊥
FindsBehind tokens (Some found) = (rest : List Spanned) × Group tokens rest × Finds rest found

-- the brackets, the first of them first
abbrev pub brackets : Behind → List Closing
brackets behind = reverse behind.unopened.items

-- all that is kept of the tokens behind is true of them
pub record Knows (tokens : List Spanned) (behind : Behind) : Type 0 where
  pub found : Finds tokens behind.found
  pub unopened : Unopened (brackets behind) tokens
  pub group : FindsBehind tokens behind.group

-- the first of the brackets is not this one, or there is none
abbrev pub IsElsewhere : Symbol → List Closing → Type 0
IsElsewhere bracket all = (found : Option Span) (others : List Closing) → all ≡ record { bracket = bracket; found = found } ∷ others → ⊥

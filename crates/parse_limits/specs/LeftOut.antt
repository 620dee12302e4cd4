-- What the tokens have that this subset leaves out, outside the parts that it ignores.
use Rattle.std.specs.Prelude.{◌≡◌, Bool, true, false, List, ◌∷◌}
use Rattle.ttcn_syntax.specs.declared.token.Spanned.{Spanned}
use Rattle.ttcn_syntax.specs.declared.token.Token.{Token}
use Rattle.ttcn_syntax.specs.declared.token.Token.TheVariants as token
use Rattle.ttcn_syntax.specs.declared.token.Word.TheVariants as word
use Rattle.parse_limits.specs.Groups.{Group}

-- a word that is left out, or a character that is no token of the language
abbrev pub is_left_out : Token → Bool
is_left_out token.LeftOut = true
is_left_out (token.Other byte) = true
is_left_out _ = false

-- the word `control` or the word `with`
abbrev pub begins_ignored : Token → Bool
begins_ignored (token.Word word.Control) = true
begins_ignored (token.Word word.With) = true
begins_ignored _ = false

-- an ignored part at the front of the tokens, and what is left behind it: the word `control` or `with` and a group directly behind it
pub data Ignored : List Spanned → List Spanned → Type 0 where
  part : {k : Spanned} {ts rest : List Spanned} → begins_ignored k.token ≡ true → Group ts rest → Ignored (k ∷ ts) rest

-- a token of the list that stands outside ignored parts
pub data Shown : List Spanned → Spanned → Type 0 where
  -- the first token
  first : {k : Spanned} {ts : List Spanned} → Shown (k ∷ ts) k
  -- a token behind the first, where no ignored part begins at the first
  behind_token : {k shown : Spanned} {ts : List Spanned} → ((rest : List Spanned) → Ignored (k ∷ ts) rest → ⊥) → Shown ts shown → Shown (k ∷ ts) shown
  -- a token behind the ignored part that begins at the first
  behind_part : {k shown : Spanned} {ts rest : List Spanned} → Ignored (k ∷ ts) rest → Shown rest shown → Shown (k ∷ ts) shown

-- some token outside ignored parts is left out
pub record HasLeftOut (tokens : List Spanned) : Type 0 where
  pub shown : Spanned
  pub stands : Shown tokens shown
  pub left_out : is_left_out shown.token ≡ true

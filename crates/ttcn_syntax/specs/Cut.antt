-- How a text is cut into tokens (ES 201 873-1, annex A, with this tool's choice of words and symbols).
-- At each place stands the longest piece that fits: a token, blanks, a comment, or a fault.
use Rattle.std.specs.Prelude.{◌≡◌, ◌≢◌, ℕ, ◌+◌, ◌-◌, ◌*◌, ◌<◌, ◌≤◌, ◌⊎◌, true, false, List, [], ◌∷◌, ◌++◌, length}
use Rattle.std.specs.List.{AllPass, fold}
use Rattle.ttcn_syntax.specs.declared.piece.Piece.{Piece}
use Rattle.ttcn_syntax.specs.declared.token.Symbol.{Symbol}
use Rattle.ttcn_syntax.specs.declared.token.Word.{Word}
use Rattle.ttcn_syntax.specs.declared.token.Token.{Token}
use Rattle.ttcn_syntax.specs.declared.token.Spanned.{Spanned}
use Rattle.ttcn_syntax.specs.declared.place.Span.{Span}
use Rattle.ttcn_syntax.specs.declared.words.LeftOutWord.{LeftOutWord}
use Rattle.ttcn_syntax.specs.declared.error.LexError.{LexError}
use Rattle.ttcn_syntax.specs.Characters.{quote, star, minus, point, slash, letter_e, is_blank, is_letter, is_digit, is_word_byte, is_visible, is_within_line}
use Rattle.ttcn_syntax.specs.Places.{place_behind}
use Rattle.ttcn_syntax.specs.Symbols.{symbol_spelling}
use Rattle.ttcn_syntax.specs.Words.{word_spelling, left_out_spelling}

-- one or more digits
pub record IsDigits (bytes : List ℕ) : Type 0 where
  pub some : 0 < length bytes
  pub each : AllPass is_digit bytes

-- an exponent: `E`, an optional `-`, digits
pub data IsExponent : List ℕ → Type 0 where
  without_sign : {ds : List ℕ} → IsDigits ds → IsExponent (letter_e ∷ ds)
  with_sign : {ds : List ℕ} → IsDigits ds → IsExponent (letter_e ∷ (minus ∷ ds))

-- bytes in which each quote stands beside another: what may stand between the quotes of a text
pub data Quoted : List ℕ → Type 0 where
  nothing : Quoted []
  one_byte : {b : ℕ} {bs : List ℕ} → b ≢ quote → Quoted bs → Quoted (b ∷ bs)
  two_quotes : {bs : List ℕ} → Quoted bs → Quoted (quote ∷ (quote ∷ bs))

-- bytes in which no `*/` stands
abbrev pub HasNoEnd : List ℕ → Type 0
HasNoEnd bytes = (before after : List ℕ) → bytes ≢ before ++ (star ∷ (slash ∷ after))

-- a visible character that is no letter, no digit, no quote and no symbol
pub record IsOther (b : ℕ) : Type 0 where
  pub visible : is_visible b ≡ true
  pub no_letter : is_letter b ≡ false
  pub no_digit : is_digit b ≡ false
  pub no_quote : b ≢ quote
  pub no_symbol : (symbol : Symbol) → symbol_spelling symbol ≢ b ∷ []

-- these bytes, with these after them in the text, can be read as this piece
pub data Fits : List ℕ → List ℕ → Piece → Type 0 where
  blank_run : {b : ℕ} {bs after : List ℕ} → AllPass is_blank (b ∷ bs) → Fits (b ∷ bs) after Piece.Blanks
  -- `//` and bytes of that line
  line_comment : {bs after : List ℕ} → AllPass is_within_line bs
      → Fits (slash ∷ (slash ∷ bs)) after Piece.Comment
  -- `/*` to the next `*/`
  block_comment : (bs : List ℕ) {after : List ℕ} → HasNoEnd (bs ++ star ∷ [])
      → Fits (slash ∷ (star ∷ (bs ++ star ∷ (slash ∷ [])))) after Piece.Comment
  -- a letter, and letters, digits and `_`
  word_or_name : {b : ℕ} {bs after : List ℕ} → is_letter b ≡ true → AllPass is_word_byte bs
      → Fits (b ∷ bs) after Piece.Identifier
  whole_number : {ds after : List ℕ} → IsDigits ds → Fits ds after Piece.Integer
  -- digits `.` digits
  fraction : (ds es : List ℕ) {after : List ℕ} → IsDigits ds → IsDigits es
      → Fits (ds ++ point ∷ es) after Piece.Float
  -- digits `.` digits with an exponent
  scaled_fraction : (ds es xs : List ℕ) {after : List ℕ} → IsDigits ds → IsDigits es → IsExponent xs
      → Fits (ds ++ point ∷ (es ++ xs)) after Piece.Float
  -- digits with an exponent
  scaled_number : (ds xs : List ℕ) {after : List ℕ} → IsDigits ds → IsExponent xs
      → Fits (ds ++ xs) after Piece.Float
  -- a text in quotes, in which two quotes stand for one
  quoted_text : (bs : List ℕ) {after : List ℕ} → Quoted bs
      → Fits (quote ∷ (bs ++ quote ∷ [])) after Piece.Text
  punctuation : {after : List ℕ} (symbol : Symbol) → Fits (symbol_spelling symbol) after (Piece.Symbol symbol)
  other_character : {b : ℕ} {after : List ℕ} → IsOther b → Fits (b ∷ []) after (Piece.Other b)
  -- `/*` and all the rest of the text, in which no `*/` stands
  open_comment : {bs : List ℕ} → HasNoEnd bs → Fits (slash ∷ (star ∷ bs)) [] Piece.OpenComment
  -- `"` and all the rest of the text, in which no quote ends it
  open_text : {bs : List ℕ} → Quoted bs → Fits (quote ∷ bs) [] Piece.OpenText
  -- a byte that is neither a blank nor visible
  bad_byte : {b : ℕ} {after : List ℕ} → is_blank b ≡ false → is_visible b ≡ false
      → Fits (b ∷ []) after Piece.BadByte

-- these bytes can be read as the piece, and none longer can be read at the place where they begin
pub record Longest (bytes after : List ℕ) (piece : Piece) : Type 0 where
  pub fits : Fits bytes after piece
  pub longest : (others behind : List ℕ) (other : Piece) → others ++ behind ≡ bytes ++ after
      → Fits others behind other → length others ≤ length bytes

-- the number that the digits write
abbrev pub decimal : List ℕ → ℕ
decimal digits = fold (λ value digit. 10 * value + (digit - 48)) 0 digits

-- blanks and comments separate tokens
pub data IsGap : Piece → Type 0 where
  by_blanks : IsGap Piece.Blanks
  by_comment : IsGap Piece.Comment

-- the token that a piece of these bytes is
pub data Gives : Piece → List ℕ → Token → Type 0 where
  used_word : (word : Word) → Gives Piece.Identifier (word_spelling word) (Token.Word word)
  left_out_word : (word : LeftOutWord) → Gives Piece.Identifier (left_out_spelling word) Token.LeftOut
  -- a word on neither list
  new_name : {bytes : List ℕ} → ((word : Word) → word_spelling word ≢ bytes)
      → ((word : LeftOutWord) → left_out_spelling word ≢ bytes)
      → Gives Piece.Identifier bytes (Token.Id bytes)
  number_in_range : {bytes : List ℕ} → decimal bytes ≤ 9223372036854775807
      → Gives Piece.Integer bytes (Token.Int (decimal bytes))
  duration : {bytes : List ℕ} → Gives Piece.Float bytes Token.Float
  free_text : {bytes : List ℕ} → Gives Piece.Text bytes Token.Text
  mark : {bytes : List ℕ} (symbol : Symbol) → Gives (Piece.Symbol symbol) bytes (Token.Symbol symbol)
  character : {bytes : List ℕ} (b : ℕ) → Gives (Piece.Other b) bytes (Token.Other b)

-- the fault that a piece of these bytes is, at its place
pub data IsFault : Piece → List ℕ → Span → LexError → Type 0 where
  no_piece : {bytes : List ℕ} {place : Span} → IsFault Piece.BadByte bytes place (LexError.BadByte place)
  unended_comment : {bytes : List ℕ} {place : Span}
      → IsFault Piece.OpenComment bytes place (LexError.OpenComment place)
  unended_text : {bytes : List ℕ} {place : Span}
      → IsFault Piece.OpenText bytes place (LexError.OpenText place)
  number_too_large : {bytes : List ℕ} {place : Span} → 9223372036854775807 < decimal bytes
      → IsFault Piece.Integer bytes place (LexError.IntegerTooLarge place)

-- behind these bytes, the rest of the text is cut into these tokens
pub data Cut : List ℕ → List ℕ → List Spanned → Type 0 where
  no_more : {before : List ℕ} → Cut before [] []
  over_gap : {before bytes after : List ℕ} {piece : Piece} {tokens : List Spanned}
      → Longest bytes after piece → IsGap piece → Cut (before ++ bytes) after tokens
      → Cut before (bytes ++ after) tokens
  with_token : {before bytes after : List ℕ} {piece : Piece} {token : Token} {tokens : List Spanned}
      → Longest bytes after piece → Gives piece bytes token → Cut (before ++ bytes) after tokens
      → Cut before (bytes ++ after) (record { token = token; place = place_behind before } ∷ tokens)

-- behind these bytes, the rest of the text is cut up to this fault, the leftmost
pub data Stops : List ℕ → List ℕ → LexError → Type 0 where
  at_fault : {before bytes after : List ℕ} {piece : Piece} {fault : LexError}
      → Longest bytes after piece → IsFault piece bytes (place_behind before) fault
      → Stops before (bytes ++ after) fault
  past_gap : {before bytes after : List ℕ} {piece : Piece} {fault : LexError}
      → Longest bytes after piece → IsGap piece → Stops (before ++ bytes) after fault
      → Stops before (bytes ++ after) fault
  past_token : {before bytes after : List ℕ} {piece : Piece} {token : Token} {fault : LexError}
      → Longest bytes after piece → Gives piece bytes token → Stops (before ++ bytes) after fault
      → Stops before (bytes ++ after) fault

-- the text is cut into these tokens
abbrev pub IsCut : List ℕ → List Spanned → Type 0
IsCut text tokens = Cut [] text tokens

-- this is the leftmost fault of the text
abbrev pub IsLeftmostFault : List ℕ → LexError → Type 0
IsLeftmostFault text fault = Stops [] text fault

-- a text has one cut or one leftmost fault, and not both
pub record HasOneReading (text : List ℕ) : Type 0 where
  pub some_reading : ((tokens : List Spanned) × IsCut text tokens) ⊎ ((fault : LexError) × IsLeftmostFault text fault)
  pub one_cut : (tokens others : List Spanned) → IsCut text tokens → IsCut text others → tokens ≡ others
  pub one_fault : (fault other : LexError) → IsLeftmostFault text fault → IsLeftmostFault text other
      → fault ≡ other
  pub not_both : (tokens : List Spanned) (fault : LexError) → IsCut text tokens
      → ¬ (IsLeftmostFault text fault)

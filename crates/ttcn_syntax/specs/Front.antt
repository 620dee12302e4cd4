-- What the code finds at the front of a text, by its bytes. What tokens are is defined by `Longest`, in `Cut`.
use Rattle.std.specs.Prelude.{ℕ, ◌+◌, List, [], ◌∷◌, ◌==◌, ◌&&◌, if◌then◌else◌, drop, slice_index, Option, Some, None}
use Rattle.std.specs.List.{prefix_len}
use Rattle.ttcn_syntax.specs.declared.piece.Piece.{Piece}
use Rattle.ttcn_syntax.specs.declared.piece.Piece.TheVariants.{Blanks, Comment, Identifier, Integer, Float, Text, Symbol, Other, OpenComment, OpenText, BadByte}
use Rattle.ttcn_syntax.specs.declared.token.Symbol.TheVariants.{Slash}
use Rattle.ttcn_syntax.specs.declared.token.Symbol as Symbols
use Rattle.ttcn_syntax.specs.Characters.{is_blank, is_letter, is_digit, is_word_byte, is_visible, is_within_line}
use Rattle.ttcn_syntax.specs.Symbols.{pair_symbol, single_symbol}

-- the length of `.` and digits at the front, or 0
abbrev pub fraction_length : List ℕ → ℕ
fraction_length xs =
    let count = prefix_len is_digit (drop 1 xs) in
    if slice_index xs 0 == 46 then (if count == 0 then 0 else count + 1) else 0

-- where the digits of an exponent begin: behind `E`, or behind `E-`
abbrev pub exponent_start : List ℕ → ℕ
exponent_start xs = if slice_index xs 1 == 45 then 2 else 1

-- the length of `E`, an optional `-` and digits at the front, or 0
abbrev pub exponent_length : List ℕ → ℕ
exponent_length xs =
    let start = exponent_start xs in
    let count = prefix_len is_digit (drop start xs) in
    if slice_index xs 0 == 69 then (if count == 0 then 0 else start + count) else 0

-- the number at the front
abbrev pub number_of : List ℕ → Piece × ℕ
number_of xs =
    let whole = prefix_len is_digit xs in
    let middle = whole + fraction_length (drop whole xs) in
    let end = middle + exponent_length (drop middle xs) in
    if end == whole then (Integer, whole) else (Float, end)

-- the text whose inside goes on here, n bytes behind its begin
abbrev pub inside_text : List ℕ → ℕ → Piece × ℕ
inside_text [] n = (OpenText, n)
inside_text (b ∷ []) n = if b == 34 then (Text, n + 1) else (OpenText, n + 1)
inside_text (b ∷ (c ∷ bs)) n =
    if b == 34
    then (if c == 34 then inside_text bs (n + 2) else (Text, n + 1))
    else inside_text (c ∷ bs) (n + 1)

-- the text at the front
abbrev pub text_of : List ℕ → Piece × ℕ
text_of xs = inside_text (drop 1 xs) 1

-- the comment whose inside goes on here, n bytes behind its begin
abbrev pub inside_comment : List ℕ → ℕ → Piece × ℕ
inside_comment [] n = (OpenComment, n)
inside_comment (b ∷ bs) n =
    if (b == 42) && (slice_index bs 0 == 47) then (Comment, n + 2) else inside_comment bs (n + 1)

-- the comment at the front, or `/`
abbrev pub slash_of : List ℕ → Piece × ℕ
slash_of xs =
    if slice_index xs 1 == 47 then (Comment, 2 + prefix_len is_within_line (drop 2 xs)) else
    if slice_index xs 1 == 42 then inside_comment (drop 2 xs) 2 else
    (Symbol Slash, 1)

-- the symbol of one byte, or that byte
abbrev pub single_of : ℕ → Option Symbols.Symbol → Piece × ℕ
single_of first None = (Other first, 1)
single_of first (Some symbol) = (Symbol symbol, 1)

-- the symbol of two bytes, or else that of one
abbrev pub pair_of : ℕ → Option Symbols.Symbol → Option Symbols.Symbol → Piece × ℕ
pair_of first None single = single_of first single
pair_of first (Some symbol) single = (Symbol symbol, 2)

-- the symbol or other character at the front
abbrev pub mark_of : List ℕ → Piece × ℕ
mark_of xs = pair_of (slice_index xs 0) (pair_symbol (slice_index xs 0) (slice_index xs 1)) (single_symbol (slice_index xs 0))

-- the piece at the front, and its length
abbrev pub front_of : List ℕ → Piece × ℕ
front_of xs =
    let first = slice_index xs 0 in
    if is_blank first then (Blanks, prefix_len is_blank xs) else
    if is_letter first then (Identifier, prefix_len is_word_byte xs) else
    if is_digit first then number_of xs else
    if first == 34 then text_of xs else
    if first == 47 then slash_of xs else
    if is_visible first then mark_of xs else
    (BadByte, 1)

-- The characters of a text, by their ASCII numbers (ES 201 873-1, annex A, characters and identifiers).
use Rattle.std.specs.Prelude.{ℕ, Bool, ◌==◌, ◌&&◌, ◌||◌, not, nat_le}

-- the characters that the forms of tokens name
abbrev pub line_feed : ℕ
line_feed = 10

-- `"`
abbrev pub quote : ℕ
quote = 34

-- `*`
abbrev pub star : ℕ
star = 42

-- `-`
abbrev pub minus : ℕ
minus = 45

-- `.`
abbrev pub point : ℕ
point = 46

-- `/`
abbrev pub slash : ℕ
slash = 47

-- `E`
abbrev pub letter_e : ℕ
letter_e = 69

-- the byte is one of those from low to high
abbrev pub is_between : ℕ → ℕ → ℕ → Bool
is_between low high b = nat_le low b && nat_le b high

-- a blank: tab, line feed, vertical tab, form feed, carriage return, or space
abbrev pub is_blank : ℕ → Bool
is_blank b = is_between 9 13 b || b == 32

-- `A` to `Z` and `a` to `z`
abbrev pub is_letter : ℕ → Bool
is_letter b = is_between 65 90 b || is_between 97 122 b

-- `0` to `9`
abbrev pub is_digit : ℕ → Bool
is_digit b = is_between 48 57 b

-- what a word goes on with: a letter, a digit or `_`
abbrev pub is_word_byte : ℕ → Bool
is_word_byte b = is_letter b || (is_digit b || b == 95)

-- a character that one sees: `!` to `~`
abbrev pub is_visible : ℕ → Bool
is_visible b = is_between 33 126 b

-- any byte but a line feed
abbrev pub is_within_line : ℕ → Bool
is_within_line b = not (b == 10)

-- Symbols and other characters: the code's tests, against the symbols' spellings.
use Rattle.std.proofs.Common.{◌≡◌, ◌≢◌, ℕ, ◌≤◌, true, false, ◌==◌, ◌&&◌, if◌then◌else◌, List, [], ◌∷◌, slice_index, Option, Some, None, refl, arith, inl, inr}
use Rattle.std.proofs.lemmas.Bool.Decides.{eqb_tells}
use Rattle.ttcn_syntax.specs.declared.token.Symbol.{Symbol}
use Rattle.ttcn_syntax.specs.declared.token.Symbol.TheVariants as Mark
use Rattle.ttcn_syntax.specs.Characters.{is_visible, is_letter, is_digit}
use Rattle.ttcn_syntax.specs.Cut.{IsOther, punctuation, other_character}
use Rattle.ttcn_syntax.specs.declared.piece.Piece.{Piece}
use Rattle.ttcn_syntax.specs.Symbols.{symbol_spelling, pair_symbol, single_symbol}
use Rattle.ttcn_syntax.specs.Front.{mark_of, pair_of, single_of}
use Rattle.ttcn_syntax.proofs.Found.{Found}

-- a test of one byte that gives s, or the tests behind it
one-test : (a n : ℕ) (s t : Symbol) (later : Option Symbol) → symbol_spelling s ≡ n ∷ []
    → (later ≡ Some t → symbol_spelling t ≡ a ∷ [])
    → (if◌then◌else◌ {A = Option Symbol} (a == n) (Some s) later) ≡ Some t → symbol_spelling t ≡ a ∷ []
one-test a n s t later spelled more given = elim (eqb_tells a n) [
  | inl is ↦ (let at : Some s ≡ Some t = rw is.0 at given in let same : s ≡ t = cc in rw (← same, is.1) spelled)
  | inr other ↦ more (rw other.0 at given)
]

-- a test of two bytes that gives s, or the tests behind it
two-tests : (a b m n : ℕ) (s t : Symbol) (later : Option Symbol) → symbol_spelling s ≡ m ∷ (n ∷ [])
    → (later ≡ Some t → symbol_spelling t ≡ a ∷ (b ∷ []))
    → (if◌then◌else◌ {A = Option Symbol} ((a == m) && (b == n)) (Some s) later) ≡ Some t → symbol_spelling t ≡ a ∷ (b ∷ [])
two-tests a b m n s t later spelled more given = elim (eqb_tells a m) [
  | inr other ↦ more (rw other.0 at given)
  | inl first ↦ elim (eqb_tells b n) [
    | inr other ↦ more (rw (first.0, other.0) at given)
    | inl second ↦ (let at : Some s ≡ Some t = rw (first.0, second.0) at given in let same : s ≡ t = cc in rw (← same, first.1, second.1) spelled)
  ]
]

-- what two bytes are found to be, they spell
pub pair-spelled : (a b : ℕ) (t : Symbol) → pair_symbol a b ≡ Some t → symbol_spelling t ≡ a ∷ (b ∷ [])
pair-spelled a b t =
    two-tests a b 58 61 Mark.Assign t _ refl (
    two-tests a b 45 62 Mark.Arrow t _ refl (
    two-tests a b 46 46 Mark.DotDot t _ refl (
    two-tests a b 61 61 Mark.Equal t _ refl (
    two-tests a b 33 61 Mark.NotEqual t _ refl (
    two-tests a b 60 61 Mark.LessEqual t _ refl (
    two-tests a b 62 61 Mark.GreaterEqual t _ refl (
    (λ (h : None ≡ Some t). cc)
    )))))))

-- what one byte is found to be, it spells
pub single-spelled : (a : ℕ) (t : Symbol) → single_symbol a ≡ Some t → symbol_spelling t ≡ a ∷ []
single-spelled a t =
    one-test a 123 Mark.LeftBrace t _ refl (
    one-test a 125 Mark.RightBrace t _ refl (
    one-test a 40 Mark.LeftParen t _ refl (
    one-test a 41 Mark.RightParen t _ refl (
    one-test a 91 Mark.LeftBracket t _ refl (
    one-test a 93 Mark.RightBracket t _ refl (
    one-test a 44 Mark.Comma t _ refl (
    one-test a 59 Mark.Semicolon t _ refl (
    one-test a 46 Mark.Dot t _ refl (
    one-test a 58 Mark.Colon t _ refl (
    one-test a 43 Mark.Plus t _ refl (
    one-test a 45 Mark.Minus t _ refl (
    one-test a 42 Mark.Star t _ refl (
    one-test a 47 Mark.Slash t _ refl (
    one-test a 60 Mark.Less t _ refl (
    one-test a 62 Mark.Greater t _ refl (
    one-test a 63 Mark.Question t _ refl (
    (λ (h : None ≡ Some t). cc)
    )))))))))))))))))

-- the first of a list's bytes
first_is : {a b : ℕ} {xs ys : List ℕ} → a ∷ xs ≡ b ∷ ys → a ≡ b
first_is e = cc

-- a byte that is found to be no symbol spells none
pub none-spelled : (a : ℕ) → single_symbol a ≡ None → (t : Symbol) → symbol_spelling t ≢ a ∷ []
none-spelled a none Mark.Assign e = cc
none-spelled a none Mark.Arrow e = cc
none-spelled a none Mark.DotDot e = cc
none-spelled a none Mark.Equal e = cc
none-spelled a none Mark.NotEqual e = cc
none-spelled a none Mark.LessEqual e = cc
none-spelled a none Mark.GreaterEqual e = cc
none-spelled a none Mark.LeftBrace e = let is : 123 ≡ a = first_is e in let given : single_symbol 123 ≡ None = rw (← is) at none in cc
none-spelled a none Mark.RightBrace e = let is : 125 ≡ a = first_is e in let given : single_symbol 125 ≡ None = rw (← is) at none in cc
none-spelled a none Mark.LeftParen e = let is : 40 ≡ a = first_is e in let given : single_symbol 40 ≡ None = rw (← is) at none in cc
none-spelled a none Mark.RightParen e = let is : 41 ≡ a = first_is e in let given : single_symbol 41 ≡ None = rw (← is) at none in cc
none-spelled a none Mark.LeftBracket e = let is : 91 ≡ a = first_is e in let given : single_symbol 91 ≡ None = rw (← is) at none in cc
none-spelled a none Mark.RightBracket e = let is : 93 ≡ a = first_is e in let given : single_symbol 93 ≡ None = rw (← is) at none in cc
none-spelled a none Mark.Comma e = let is : 44 ≡ a = first_is e in let given : single_symbol 44 ≡ None = rw (← is) at none in cc
none-spelled a none Mark.Semicolon e = let is : 59 ≡ a = first_is e in let given : single_symbol 59 ≡ None = rw (← is) at none in cc
none-spelled a none Mark.Dot e = let is : 46 ≡ a = first_is e in let given : single_symbol 46 ≡ None = rw (← is) at none in cc
none-spelled a none Mark.Colon e = let is : 58 ≡ a = first_is e in let given : single_symbol 58 ≡ None = rw (← is) at none in cc
none-spelled a none Mark.Plus e = let is : 43 ≡ a = first_is e in let given : single_symbol 43 ≡ None = rw (← is) at none in cc
none-spelled a none Mark.Minus e = let is : 45 ≡ a = first_is e in let given : single_symbol 45 ≡ None = rw (← is) at none in cc
none-spelled a none Mark.Star e = let is : 42 ≡ a = first_is e in let given : single_symbol 42 ≡ None = rw (← is) at none in cc
none-spelled a none Mark.Slash e = let is : 47 ≡ a = first_is e in let given : single_symbol 47 ≡ None = rw (← is) at none in cc
none-spelled a none Mark.Less e = let is : 60 ≡ a = first_is e in let given : single_symbol 60 ≡ None = rw (← is) at none in cc
none-spelled a none Mark.Greater e = let is : 62 ≡ a = first_is e in let given : single_symbol 62 ≡ None = rw (← is) at none in cc
none-spelled a none Mark.Question e = let is : 63 ≡ a = first_is e in let given : single_symbol 63 ≡ None = rw (← is) at none in cc

-- no symbol has the byte 0
no-zero : (a : ℕ) (t : Symbol) → symbol_spelling t ≢ a ∷ (0 ∷ [])
no-zero a Mark.Assign e = cc
no-zero a Mark.Arrow e = cc
no-zero a Mark.DotDot e = cc
no-zero a Mark.Equal e = cc
no-zero a Mark.NotEqual e = cc
no-zero a Mark.LessEqual e = cc
no-zero a Mark.GreaterEqual e = cc
no-zero a Mark.LeftBrace e = cc
no-zero a Mark.RightBrace e = cc
no-zero a Mark.LeftParen e = cc
no-zero a Mark.RightParen e = cc
no-zero a Mark.LeftBracket e = cc
no-zero a Mark.RightBracket e = cc
no-zero a Mark.Comma e = cc
no-zero a Mark.Semicolon e = cc
no-zero a Mark.Dot e = cc
no-zero a Mark.Colon e = cc
no-zero a Mark.Plus e = cc
no-zero a Mark.Minus e = cc
no-zero a Mark.Star e = cc
no-zero a Mark.Slash e = cc
no-zero a Mark.Less e = cc
no-zero a Mark.Greater e = cc
no-zero a Mark.Question e = cc

-- a mark has a byte at least
pub mark-reaches : (xs : List ℕ) → 1 ≤ (mark_of xs).1
mark-reaches xs = longer (slice_index xs 0) (pair_symbol (slice_index xs 0) (slice_index xs 1)) (single_symbol (slice_index xs 0))
  where
    longer : (b : ℕ) (o p : Option Symbol) → 1 ≤ (pair_of b o p).1
    longer b None None = omega arith
    longer b None (Some s) = omega arith
    longer b (Some s) p = omega arith

single-found : (b : ℕ) (xs : List ℕ) (o : Option Symbol) → single_symbol b ≡ o
    → is_visible b ≡ true → is_letter b ≡ false → is_digit b ≡ false → b ≢ 34 → Found (b ∷ xs) (single_of b o)
single-found b xs None given visible letter digit quote = record {
  bytes = b ∷ [];
  after = xs;
  is = refl;
  count = refl;
  fits = other_character (record { visible = visible; no_letter = letter; no_digit = digit; no_quote = quote; no_symbol = none-spelled b given });
}
single-found b xs (Some s) given visible letter digit quote = record {
  bytes = symbol_spelling s;
  after = xs;
  is = rw (single-spelled b s given) refl;
  count = rw (single-spelled b s given) refl;
  fits = punctuation s;
}

pair-found : (b : ℕ) (xs : List ℕ) (o : Option Symbol) → pair_symbol b (slice_index xs 0) ≡ o
    → is_visible b ≡ true → is_letter b ≡ false → is_digit b ≡ false → b ≢ 34 → Found (b ∷ xs) (pair_of b o (single_symbol b))
pair-found b xs None given visible letter digit quote = single-found b xs (single_symbol b) refl visible letter digit quote
pair-found b [] (Some s) given visible letter digit quote = absurd (no-zero b s (pair-spelled b 0 s given))
pair-found b (c ∷ xs) (Some s) given visible letter digit quote = record {
  bytes = symbol_spelling s;
  after = xs;
  is = rw (pair-spelled b c s given) refl;
  count = rw (pair-spelled b c s given) refl;
  fits = punctuation s;
}

pub mark-found : (b : ℕ) (xs : List ℕ) → is_visible b ≡ true → is_letter b ≡ false → is_digit b ≡ false → b ≢ 34 → Found (b ∷ xs) (mark_of (b ∷ xs))
mark-found b xs visible letter digit quote = pair-found b xs (pair_symbol b (slice_index xs 0)) refl visible letter digit quote

-- where one byte alone is the mark
pub mark-single : (b : ℕ) (xs : List ℕ) → 1 ≡ (mark_of (b ∷ xs)).1 → (mark_of (b ∷ xs)).0 ≡ (single_of b (single_symbol b)).0
mark-single b xs h = single (pair_symbol b (slice_index xs 0)) h
  where
    single : (o : Option Symbol) → 1 ≡ (pair_of b o (single_symbol b)).1 → (pair_of b o (single_symbol b)).0 ≡ (single_of b (single_symbol b)).0
    single None h = refl
    single (Some s) h = absurd (omega (arith, h))

pub other-single : (b : ℕ) → IsOther b → (single_of b (single_symbol b)).0 ≡ Piece.Other b
other-single b is = single (single_symbol b) refl
  where
    single : (o : Option Symbol) → single_symbol b ≡ o → (single_of b o).0 ≡ Piece.Other b
    single None h = refl
    single (Some s) h = absurd (is.no_symbol s (single-spelled b s h))

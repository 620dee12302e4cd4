-- The code's reading of a front gives a piece that fits, and none that fits is longer.
use Rattle.std.proofs.Common.{◌≡◌, ◌≢◌, ℕ, ◌+◌, ◌<◌, ◌≤◌, ◌⊎◌, Bool, true, false, ◌==◌, if◌then◌else◌, List, [], ◌∷◌, ◌++◌, length, slice_index, take, drop, refl, ap, arith, sym, ◌∙◌, inl, inr, length-append, append_assoc, append-nil}
use Rattle.std.specs.List.{prefix_len, AllPass}
use Rattle.std.proofs.lemmas.Bool.Decides.{nat_tests, eqb_tells}
use Rattle.std.proofs.lemmas.List.{take_at, drop_at}
use Rattle.ttcn_syntax.specs.declared.piece.Piece.{Piece}
use Rattle.ttcn_syntax.specs.declared.token.Symbol.{Symbol}
use Rattle.ttcn_syntax.specs.declared.token.Symbol.TheVariants as mark
use Rattle.ttcn_syntax.specs.Characters.{is_blank, is_letter, is_digit, is_word_byte, is_visible, is_within_line}
use Rattle.ttcn_syntax.specs.Symbols.{symbol_spelling}
use Rattle.ttcn_syntax.specs.Cut
use Rattle.ttcn_syntax.specs.Cut.{Fits, Longest, IsDigits, IsOther}
use Rattle.ttcn_syntax.specs.Front.{front_of, number_of, slash_of, mark_of, inside_comment}
use Rattle.ttcn_syntax.proofs.Ends.{text-found, comment-found}
use Rattle.ttcn_syntax.proofs.Found.{Found}
use Rattle.ttcn_syntax.proofs.Insides.{text-reaches, open-text-reaches, comment-reaches, open-comment-reaches, comment-goes-on}
use Rattle.ttcn_syntax.proofs.Marks.{mark-found, mark-reaches}
use Rattle.ttcn_syntax.proofs.Numbers.{number-found, number-ends, end_of, whole-reaches, fraction-form-reaches, scaled-fraction-reaches, scaled-reaches}
use Rattle.ttcn_syntax.proofs.Runs.{run-reaches, passes-head, passes-tail, passes-cons, Run, run_of}

-- ---- what the code reads, by the first byte

pub front-blank : (b : ℕ) (xs : List ℕ) → is_blank b ≡ true → front_of (b ∷ xs) ≡ (Piece.Blanks, prefix_len is_blank (b ∷ xs))
front-blank b xs h = rw h refl

pub front-word : (b : ℕ) (xs : List ℕ) → is_letter b ≡ true → front_of (b ∷ xs) ≡ (Piece.Identifier, prefix_len is_word_byte (b ∷ xs))
front-word b xs h =
    let off : is_blank b ≡ false = grind (arith, nat_tests) in
    rw (off, h) refl

pub front-number : (b : ℕ) (xs : List ℕ) → is_digit b ≡ true → front_of (b ∷ xs) ≡ number_of (b ∷ xs)
front-number b xs h =
    let blank : is_blank b ≡ false = grind (arith, nat_tests) in
    let letter : is_letter b ≡ false = grind (arith, nat_tests) in
    rw (blank, letter, h) refl

pub front-mark : (b : ℕ) (xs : List ℕ) → is_visible b ≡ true → is_letter b ≡ false → is_digit b ≡ false → b ≢ 34 → b ≢ 47 → front_of (b ∷ xs) ≡ mark_of (b ∷ xs)
front-mark b xs visible letter digit quote slash =
    let blank : is_blank b ≡ false = grind (arith, nat_tests) in
    let no_quote : (b == 34) ≡ false = grind (arith, nat_tests) in
    let no_slash : (b == 47) ≡ false = grind (arith, nat_tests) in
    rw (blank, letter, digit, no_quote, no_slash, visible) refl

pub front-bad : (b : ℕ) (xs : List ℕ) → is_blank b ≡ false → is_visible b ≡ false → front_of (b ∷ xs) ≡ (Piece.BadByte, 1)
front-bad b xs blank visible =
    let letter : is_letter b ≡ false = grind (arith, nat_tests) in
    let digit : is_digit b ≡ false = grind (arith, nat_tests) in
    let no_quote : (b == 34) ≡ false = grind (arith, nat_tests) in
    let no_slash : (b == 47) ≡ false = grind (arith, nat_tests) in
    rw (blank, letter, digit, no_quote, no_slash, visible) refl

-- ---- none that fits is longer

slash-reaches : (xs : List ℕ) → 1 ≤ (slash_of xs).1
slash-reaches xs =
    let on = comment-goes-on (drop 2 xs) 2 in
    elim (slice_index xs 1 == 47) as (λ t. 1 ≤ (if◌then◌else◌ {A = Piece × ℕ} t (Piece.Comment, 2 + prefix_len is_within_line (drop 2 xs)) (if◌then◌else◌ {A = Piece × ℕ} (slice_index xs 1 == 42) (inside_comment (drop 2 xs) 2) (Piece.Symbol mark.Slash, 1))).1) [
      | true ↦ omega arith
      | false ↦ elim (slice_index xs 1 == 42) as (λ t. 1 ≤ (if◌then◌else◌ {A = Piece × ℕ} t (inside_comment (drop 2 xs) 2) (Piece.Symbol mark.Slash, 1)).1) [ true ↦ omega (arith, on) | false ↦ omega arith ]
    ]

symbol-reaches : (s : Symbol) (after : List ℕ) → length (symbol_spelling s) ≤ (front_of (symbol_spelling s ++ after)).1
symbol-reaches mark.Assign after = omega arith
symbol-reaches mark.Arrow after = omega arith
symbol-reaches mark.DotDot after = omega arith
symbol-reaches mark.Equal after = omega arith
symbol-reaches mark.NotEqual after = omega arith
symbol-reaches mark.LessEqual after = omega arith
symbol-reaches mark.GreaterEqual after = omega arith
symbol-reaches mark.LeftBrace after = mark-reaches (123 ∷ after)
symbol-reaches mark.RightBrace after = mark-reaches (125 ∷ after)
symbol-reaches mark.LeftParen after = mark-reaches (40 ∷ after)
symbol-reaches mark.RightParen after = mark-reaches (41 ∷ after)
symbol-reaches mark.LeftBracket after = mark-reaches (91 ∷ after)
symbol-reaches mark.RightBracket after = mark-reaches (93 ∷ after)
symbol-reaches mark.Comma after = mark-reaches (44 ∷ after)
symbol-reaches mark.Semicolon after = mark-reaches (59 ∷ after)
symbol-reaches mark.Dot after = mark-reaches (46 ∷ after)
symbol-reaches mark.Colon after = mark-reaches (58 ∷ after)
symbol-reaches mark.Plus after = mark-reaches (43 ∷ after)
symbol-reaches mark.Minus after = mark-reaches (45 ∷ after)
symbol-reaches mark.Star after = mark-reaches (42 ∷ after)
symbol-reaches mark.Slash after = slash-reaches (47 ∷ after)
symbol-reaches mark.Less after = mark-reaches (60 ∷ after)
symbol-reaches mark.Greater after = mark-reaches (62 ∷ after)
symbol-reaches mark.Question after = mark-reaches (63 ∷ after)

-- digits are read as a number
digits-reach : (ds after : List ℕ) (n : ℕ) → IsDigits ds → n ≤ end_of (ds ++ after) → n ≤ (front_of (ds ++ after)).1
digits-reach [] after n d h = absurd (let some = d.some in omega arith)
digits-reach (b ∷ ds) after n d h =
    let digit = passes-head is_digit b ds d.each in
    rw (front-number b (ds ++ after) digit) (omega (arith, number-ends (b ∷ (ds ++ after)), h))

-- the same where the digits are followed by more of the number
number-reaches : (ds more after : List ℕ) (n : ℕ) → IsDigits ds → n ≤ end_of ((ds ++ more) ++ after) → n ≤ (front_of ((ds ++ more) ++ after)).1
number-reaches ds more after n d h =
    let same : (ds ++ more) ++ after ≡ ds ++ (more ++ after) = append_assoc ds more after in
    rw same (digits-reach ds (more ++ after) n d (rw same at h))

other-reaches : (b : ℕ) (after : List ℕ) → IsOther b → 1 ≤ (front_of (b ∷ after)).1
other-reaches b after o =
    let no_slash : b ≢ 47 = λ e. o.no_symbol mark.Slash (ap (λ c. c ∷ []) (sym e)) in
    rw (front-mark b after o.visible o.no_letter o.no_digit o.no_quote no_slash) (mark-reaches (b ∷ after))

pub fits-within : {bytes after : List ℕ} {piece : Piece} → Fits bytes after piece → length bytes ≤ (front_of (bytes ++ after)).1
fits-within (Cut.blank_run {b = b} {bs = bs} {after = after} h) =
    rw (front-blank b (bs ++ after) (passes-head is_blank b bs h)) (run-reaches is_blank (b ∷ bs) after h)
fits-within (Cut.line_comment {bs = bs} {after = after} h) = omega (arith, run-reaches is_within_line bs after h)
fits-within (Cut.block_comment bs {after = after} h) =
    let same : (bs ++ 42 ∷ (47 ∷ [])) ++ after ≡ bs ++ 42 ∷ (47 ∷ after) = append_assoc bs (42 ∷ (47 ∷ [])) after in
    let r = comment-reaches bs after 2 h in
    rw same (omega (arith, r, length-append bs (42 ∷ (47 ∷ []))))
fits-within (Cut.word_or_name {b = b} {bs = bs} {after = after} l h) =
    let word : is_word_byte b ≡ true = rw l refl in
    rw (front-word b (bs ++ after) l) (run-reaches is_word_byte (b ∷ bs) after (passes-cons is_word_byte b bs word h))
fits-within (Cut.whole_number {ds = ds} {after = after} d) = digits-reach ds after (length ds) d (whole-reaches ds after d)
fits-within (Cut.fraction ds es {after = after} d e) = number-reaches ds (46 ∷ es) after (length (ds ++ 46 ∷ es)) d (fraction-form-reaches ds es after d e)
fits-within (Cut.scaled_fraction ds es xs {after = after} d e x) = number-reaches ds (46 ∷ (es ++ xs)) after (length (ds ++ 46 ∷ (es ++ xs))) d (scaled-fraction-reaches ds es xs after d e x)
fits-within (Cut.scaled_number ds xs {after = after} d x) = number-reaches ds xs after (length (ds ++ xs)) d (scaled-reaches ds xs after d x)
fits-within (Cut.quoted_text bs {after = after} q) =
    let same : (bs ++ 34 ∷ []) ++ after ≡ bs ++ 34 ∷ after = append_assoc bs (34 ∷ []) after in
    rw same (omega (arith, text-reaches after 1 q, length-append bs (34 ∷ [])))
fits-within (Cut.punctuation {after = after} s) = symbol-reaches s after
fits-within (Cut.other_character {b = b} {after = after} o) = other-reaches b after o
fits-within (Cut.open_comment {bs = bs} h) = rw (append-nil bs) (omega (arith, open-comment-reaches bs 2 h))
fits-within (Cut.open_text {bs = bs} q) = rw (append-nil bs) (omega (arith, open-text-reaches 1 q))
fits-within (Cut.bad_byte {b = b} {after = after} blank visible) = rw (front-bad b after blank visible) (omega arith)

-- ---- what the code reads fits

run-found : (p : ℕ → Bool) (b : ℕ) (xs : List ℕ) (piece : Piece) → p b ≡ true
    → ((bs after : List ℕ) → AllPass p (b ∷ bs) → Fits (b ∷ bs) after piece) → Found (b ∷ xs) (piece, prefix_len p (b ∷ xs))
run-found p b xs piece h fits =
    let r : Run p xs = run_of p xs in
    record {
      bytes = b ∷ r.bytes;
      after = r.after;
      is = ap (λ ys. b ∷ ys) r.is;
      count = rw h (omega (arith, r.count));
      fits = fits r.bytes r.after (passes-cons p b r.bytes h r.each);
    }

line-found : (xs : List ℕ) → Found (47 ∷ (47 ∷ xs)) (Piece.Comment, 2 + prefix_len is_within_line xs)
line-found xs =
    let r : Run is_within_line xs = run_of is_within_line xs in
    record {
      bytes = 47 ∷ (47 ∷ r.bytes);
      after = r.after;
      is = ap (λ ys. 47 ∷ (47 ∷ ys)) r.is;
      count = omega (arith, r.count);
      fits = Cut.line_comment r.each;
    }

lone-slash : (xs : List ℕ) → Found (47 ∷ xs) (Piece.Symbol mark.Slash, 1)
lone-slash xs = record { bytes = 47 ∷ []; after = xs; is = refl; count = refl; fits = Cut.punctuation mark.Slash }

slash-found : (xs : List ℕ) → Found (47 ∷ xs) (slash_of (47 ∷ xs))
slash-found [] = lone-slash []
slash-found (c ∷ xs) = elim (eqb_tells c 47) [
  | inl line ↦ rw line.1 (line-found xs)
  | inr other ↦ elim (eqb_tells c 42) [
    | inl star ↦ rw star.1 (comment-found xs)
    | inr neither ↦ rw (other.0, neither.0) (lone-slash (c ∷ xs))
  ]
]

bool-cases : (b : Bool) → (b ≡ true) ⊎ (b ≡ false)
bool-cases true = inl refl
bool-cases false = inr refl

not-blank-found : (b : ℕ) (xs : List ℕ) → is_blank b ≡ false → Found (b ∷ xs) (front_of (b ∷ xs))
not-blank-found b xs blank = elim (bool-cases (is_letter b)) [
  | inl letter ↦ rw (front-word b xs letter) (run-found is_word_byte b xs Piece.Identifier (rw letter refl) (λ bs after h. Cut.word_or_name letter (passes-tail is_word_byte b bs h)))
  | inr letter ↦ elim (bool-cases (is_digit b)) [
    | inl digit ↦ rw (front-number b xs digit) (number-found b xs digit)
    | inr digit ↦ elim (eqb_tells b 34) [
      | inl quote ↦ rw quote.1 (text-found xs)
      | inr quote ↦ elim (eqb_tells b 47) [
        | inl slash ↦ rw slash.1 (slash-found xs)
        | inr slash ↦ elim (bool-cases (is_visible b)) [
          | inl visible ↦ rw (front-mark b xs visible letter digit quote.1 slash.1) (mark-found b xs visible letter digit quote.1)
          | inr visible ↦ rw (front-bad b xs blank visible) (record { bytes = b ∷ []; after = xs; is = refl; count = refl; fits = Cut.bad_byte blank visible })
        ]
      ]
    ]
  ]
]

pub front-found : (b : ℕ) (xs : List ℕ) → Found (b ∷ xs) (front_of (b ∷ xs))
front-found b xs = elim (bool-cases (is_blank b)) [
  | inl blank ↦ rw (front-blank b xs blank) (run-found is_blank b xs Piece.Blanks blank (λ bs after h. Cut.blank_run h))
  | inr blank ↦ not-blank-found b xs blank
]

-- a symbol has a byte at least
symbol-some : (s : Symbol) → 0 < length (symbol_spelling s)
symbol-some mark.Assign = omega arith
symbol-some mark.Arrow = omega arith
symbol-some mark.DotDot = omega arith
symbol-some mark.Equal = omega arith
symbol-some mark.NotEqual = omega arith
symbol-some mark.LessEqual = omega arith
symbol-some mark.GreaterEqual = omega arith
symbol-some mark.LeftBrace = omega arith
symbol-some mark.RightBrace = omega arith
symbol-some mark.LeftParen = omega arith
symbol-some mark.RightParen = omega arith
symbol-some mark.LeftBracket = omega arith
symbol-some mark.RightBracket = omega arith
symbol-some mark.Comma = omega arith
symbol-some mark.Semicolon = omega arith
symbol-some mark.Dot = omega arith
symbol-some mark.Colon = omega arith
symbol-some mark.Plus = omega arith
symbol-some mark.Minus = omega arith
symbol-some mark.Star = omega arith
symbol-some mark.Slash = omega arith
symbol-some mark.Less = omega arith
symbol-some mark.Greater = omega arith
symbol-some mark.Question = omega arith

-- a piece has a byte at least
pub fits-some : {bytes after : List ℕ} {piece : Piece} → Fits bytes after piece → 0 < length bytes
fits-some (Cut.blank_run h) = omega arith
fits-some (Cut.line_comment h) = omega arith
fits-some (Cut.block_comment bs h) = omega arith
fits-some (Cut.word_or_name l h) = omega arith
fits-some (Cut.whole_number d) = d.some
fits-some (Cut.fraction ds es d e) = omega (arith, length-append ds (46 ∷ es))
fits-some (Cut.scaled_fraction ds es xs d e x) = omega (arith, length-append ds (46 ∷ (es ++ xs)))
fits-some (Cut.scaled_number ds xs d x) = omega (arith, length-append ds xs, d.some)
fits-some (Cut.quoted_text bs q) = omega arith
fits-some (Cut.punctuation s) = symbol-some s
fits-some (Cut.other_character o) = omega arith
fits-some (Cut.open_comment h) = omega arith
fits-some (Cut.open_text q) = omega arith
fits-some (Cut.bad_byte blank visible) = omega arith

-- what the code reads at the front of a text that is not empty
pub record IsFront (rest : List ℕ) (found : Piece × ℕ) : Type 0 where
  pub some : 0 < found.1
  pub within : found.1 ≤ length rest
  pub longest : Longest (take found.1 rest) (drop found.1 rest) found.0

found-longest : (rest : List ℕ) → Found rest (front_of rest) → IsFront rest (front_of rest)
found-longest rest f =
    let front : take (front_of rest).1 rest ≡ f.bytes = rw (← f.is) (take_at f.bytes f.after (front_of (f.bytes ++ f.after)).1 (rw f.is f.count)) in
    let back : drop (front_of rest).1 rest ≡ f.after = rw (← f.is) (drop_at f.bytes f.after (front_of (f.bytes ++ f.after)).1 (rw f.is f.count)) in
    record {
      some = omega (arith, f.count, fits-some f.fits);
      within = omega (arith, f.count, length-append f.bytes f.after, ap length f.is);
      longest = rw (front, back) (record {
        fits = f.fits;
        longest = λ others behind other same fits.
            let all : others ++ behind ≡ rest = same ∙ f.is in
            let reach = rw all at (fits-within fits) in
            omega (arith, reach, f.count);
      });
    }

pub front-is : (rest : List ℕ) → 0 < length rest → IsFront rest (front_of rest)
front-is [] h = absurd (omega arith)
front-is (b ∷ xs) h = found-longest (b ∷ xs) (front-found b xs)

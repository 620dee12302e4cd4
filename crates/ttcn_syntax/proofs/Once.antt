-- A text has one cut, or one leftmost fault, and not both.
use Rattle.std.proofs.Common.{◌≡◌, ◌≢◌, ℕ, ◌<◌, false, List, [], ◌∷◌, ◌++◌, length, take, drop, refl, ap, arith, sym, ◌∙◌, inl, inr, length-append, append_assoc, append-nil}
use Rattle.std.specs.List.{prefix_len}
use Rattle.std.proofs.lemmas.Bool.Decides.{eqb_tells}
use Rattle.std.proofs.lemmas.List.{take_at, drop_at}
use Rattle.ttcn_syntax.specs.declared.piece.Piece.{Piece}
use Rattle.ttcn_syntax.specs.declared.place.Span.{Span}
use Rattle.ttcn_syntax.specs.declared.error.LexError.{LexError}
use Rattle.ttcn_syntax.specs.declared.token.Symbol.{Symbol}
use Rattle.ttcn_syntax.specs.declared.token.Symbol.TheVariants as Mark
use Rattle.ttcn_syntax.specs.declared.token.Token.{Token}
use Rattle.ttcn_syntax.specs.declared.token.Spanned.{Spanned}
use Rattle.ttcn_syntax.specs.Characters.{is_blank, is_digit}
use Rattle.ttcn_syntax.specs.Places.{place_behind}
use Rattle.ttcn_syntax.specs.Symbols.{symbol_spelling}
use Rattle.ttcn_syntax.specs.Cut
use Rattle.ttcn_syntax.specs.Cut.{Fits, Longest, IsDigits, IsGap, Gives, IsFault, Cut, Stops, decimal, HasOneReading}
use Rattle.ttcn_syntax.specs.Front.{front_of, number_of, slash_of}
use Rattle.ttcn_syntax.proofs.Ends.{closed-comment-is, open-comment-is, closed-text-is, open-text-is}
use Rattle.ttcn_syntax.proofs.Found.{Found}
use Rattle.ttcn_syntax.proofs.Fronts.{front-blank, front-word, front-number, front-mark, front-bad, fits-within, fits-some, front-found}
use Rattle.ttcn_syntax.proofs.Insides.{comment-goes-on}
use Rattle.ttcn_syntax.proofs.Marks.{mark-single, other-single}
use Rattle.ttcn_syntax.proofs.Numbers.{end_of, number-ends, chosen-is, chosen-float, exponent-begins}
use Rattle.ttcn_syntax.proofs.Runs.{run-reaches, run-ends, passes-head}
use Rattle.ttcn_syntax.proofs.SomeReading.{reading_of}
use Rattle.ttcn_syntax.proofs.WordSearch.{word-one, word-not-left-out}

-- ---- the longest piece is what the code reads

digits-front : (ds after : List ℕ) → IsDigits ds → front_of (ds ++ after) ≡ number_of (ds ++ after)
digits-front [] after d = absurd (let some = d.some in omega arith)
digits-front (b ∷ ds) after d = front-number b (ds ++ after) (passes-head is_digit b ds d.each)

-- digits alone are a whole number
whole-is : (ds after : List ℕ) → IsDigits ds → length ds ≡ (front_of (ds ++ after)).1 → Piece.Integer ≡ (front_of (ds ++ after)).0
whole-is ds after d count =
    let is = digits-front ds after d in
    let long : length ds ≡ (number_of (ds ++ after)).1 = rw is at count in
    let ends = number-ends (ds ++ after) in
    let reach = run-reaches is_digit ds after d.each in
    rw is (sym (chosen-is (end_of (ds ++ after)) (prefix_len is_digit (ds ++ after)) (omega (arith, long, ends, reach))))

-- digits with more of a number behind them are a duration
float-is : (ds : List ℕ) (c : ℕ) (rest : List ℕ) (n : ℕ) → IsDigits ds → is_digit c ≡ false → length ds < n → n ≡ (front_of (ds ++ c ∷ rest)).1 → Piece.Float ≡ (front_of (ds ++ c ∷ rest)).0
float-is ds c rest n d stops more count =
    let is = digits-front ds (c ∷ rest) d in
    let long : n ≡ (number_of (ds ++ c ∷ rest)).1 = rw is at count in
    let ends = number-ends (ds ++ c ∷ rest) in
    let run = run-ends is_digit ds c rest d.each stops in
    rw is (sym (chosen-float (end_of (ds ++ c ∷ rest)) (prefix_len is_digit (ds ++ c ∷ rest)) (omega (arith, long, ends, run, more))))

-- where a slash alone is read
slash-single : (xs : List ℕ) → 1 ≡ (slash_of (47 ∷ xs)).1 → Piece.Symbol Mark.Slash ≡ (slash_of (47 ∷ xs)).0
slash-single [] h = refl
slash-single (c ∷ xs) h = elim (eqb_tells c 47) [
  | inl line ↦ absurd (let long = rw line.0 at h in omega (arith, long))
  | inr other ↦ elim (eqb_tells c 42) [
    | inl star ↦ absurd (let long = rw (other.0, star.0) at h in omega (arith, long, comment-goes-on xs 2))
    | inr neither ↦ rw (other.0, neither.0) refl
  ]
]

symbol-is : (s : Symbol) (after : List ℕ) → length (symbol_spelling s) ≡ (front_of (symbol_spelling s ++ after)).1 → Piece.Symbol s ≡ (front_of (symbol_spelling s ++ after)).0
symbol-is Mark.Assign after h = refl
symbol-is Mark.Arrow after h = refl
symbol-is Mark.DotDot after h = refl
symbol-is Mark.Equal after h = refl
symbol-is Mark.NotEqual after h = refl
symbol-is Mark.LessEqual after h = refl
symbol-is Mark.GreaterEqual after h = refl
symbol-is Mark.LeftBrace after h = sym (mark-single 123 after h)
symbol-is Mark.RightBrace after h = sym (mark-single 125 after h)
symbol-is Mark.LeftParen after h = sym (mark-single 40 after h)
symbol-is Mark.RightParen after h = sym (mark-single 41 after h)
symbol-is Mark.LeftBracket after h = sym (mark-single 91 after h)
symbol-is Mark.RightBracket after h = sym (mark-single 93 after h)
symbol-is Mark.Comma after h = sym (mark-single 44 after h)
symbol-is Mark.Semicolon after h = sym (mark-single 59 after h)
symbol-is Mark.Dot after h = sym (mark-single 46 after h)
symbol-is Mark.Colon after h = sym (mark-single 58 after h)
symbol-is Mark.Plus after h = sym (mark-single 43 after h)
symbol-is Mark.Minus after h = sym (mark-single 45 after h)
symbol-is Mark.Star after h = sym (mark-single 42 after h)
symbol-is Mark.Slash after h = slash-single after h
symbol-is Mark.Less after h = sym (mark-single 60 after h)
symbol-is Mark.Greater after h = sym (mark-single 62 after h)
symbol-is Mark.Question after h = sym (mark-single 63 after h)

fits-is : {bytes after : List ℕ} {piece : Piece} → Fits bytes after piece → length bytes ≡ (front_of (bytes ++ after)).1 → piece ≡ (front_of (bytes ++ after)).0
fits-is (Cut.blank_run {b = b} {bs = bs} {after = after} h) count = rw (front-blank b (bs ++ after) (passes-head is_blank b bs h)) refl
fits-is (Cut.line_comment h) count = refl
fits-is (Cut.block_comment bs {after = after} h) count = rw (append_assoc bs (42 ∷ (47 ∷ [])) after) (closed-comment-is bs after 2)
fits-is (Cut.word_or_name {b = b} {bs = bs} {after = after} l h) count = rw (front-word b (bs ++ after) l) refl
fits-is (Cut.whole_number {ds = ds} {after = after} d) count = whole-is ds after d count
fits-is (Cut.fraction ds es {after = after} d e) count =
    let same = append_assoc ds (46 ∷ es) after in
    rw same (float-is ds 46 (es ++ after) (length (ds ++ 46 ∷ es)) d refl (omega (arith, length-append ds (46 ∷ es))) (rw same at count))
fits-is (Cut.scaled_fraction ds es xs {after = after} d e x) count =
    let same = append_assoc ds (46 ∷ (es ++ xs)) after in
    rw same (float-is ds 46 ((es ++ xs) ++ after) (length (ds ++ 46 ∷ (es ++ xs))) d refl (omega (arith, length-append ds (46 ∷ (es ++ xs)))) (rw same at count))
fits-is (Cut.scaled_number ds xs {after = after} d x) count =
    let b = exponent-begins x in
    let same : (ds ++ xs) ++ after ≡ ds ++ 69 ∷ (b.0 ++ after) = append_assoc ds xs after ∙ ap (λ ys. ds ++ (ys ++ after)) b.1 in
    rw same (float-is ds 69 (b.0 ++ after) (length (ds ++ xs)) d refl (omega (arith, length-append ds xs, ap length b.1)) (rw same at count))
fits-is (Cut.quoted_text bs {after = after} q) count =
    let same = append_assoc bs (34 ∷ []) after in
    let long = rw same at count in
    rw same (closed-text-is bs after 1 q (omega (arith, long, length-append bs (34 ∷ []))))
fits-is (Cut.punctuation {after = after} s) count = symbol-is s after count
fits-is (Cut.other_character {b = b} {after = after} o) count =
    let no_slash : b ≢ 47 = λ e. o.no_symbol Mark.Slash (ap (λ c. c ∷ []) (sym e)) in
    let is = front-mark b after o.visible o.no_letter o.no_digit o.no_quote no_slash in
    rw is (sym (mark-single b after (rw is at count) ∙ other-single b o))
fits-is (Cut.open_comment {bs = bs} h) count = rw (append-nil bs) (open-comment-is bs 2 h)
fits-is (Cut.open_text {bs = bs} q) count =
    let long = rw (append-nil bs) at count in
    rw (append-nil bs) (open-text-is bs 1 q (omega (arith, long)))
fits-is (Cut.bad_byte {b = b} {after = after} blank visible) count = rw (front-bad b after blank visible) refl

found_of : (rest : List ℕ) → 0 < length rest → Found rest (front_of rest)
found_of [] h = absurd (omega arith)
found_of (b ∷ xs) h = front-found b xs

longest-count : {bytes after : List ℕ} {piece : Piece} → Longest bytes after piece → length bytes ≡ (front_of (bytes ++ after)).1
longest-count {bytes = bytes} {after = after} l =
    let f : Found (bytes ++ after) (front_of (bytes ++ after)) = found_of (bytes ++ after) (omega (arith, length-append bytes after, fits-some l.fits)) in
    let up = fits-within l.fits in
    let down = l.longest f.bytes f.after (front_of (bytes ++ after)).0 f.is f.fits in
    omega (arith, up, down, f.count)

-- two longest pieces of one text are one
record IsSame (bytes others after behind : List ℕ) (piece other : Piece) : Type 0 where
  bytes_is : bytes ≡ others
  after_is : after ≡ behind
  piece_is : piece ≡ other

same-longest : {bytes others after behind : List ℕ} {piece other : Piece} → Longest bytes after piece → Longest others behind other → bytes ++ after ≡ others ++ behind → IsSame bytes others after behind piece other
same-longest {bytes = bytes} {others = others} {after = after} {behind = behind} l k e =
    let long = longest-count l in
    let also = longest-count k in
    let count : length others ≡ length bytes = rw (← e) at also ∙ sym long in
    record {
      bytes_is = sym (take_at bytes after (length bytes) refl) ∙ ap (take (length bytes)) e ∙ take_at others behind (length bytes) count;
      after_is = sym (drop_at bytes after (length bytes) refl) ∙ ap (drop (length bytes)) e ∙ drop_at others behind (length bytes) count;
      piece_is = fits-is l.fits long ∙ ap (λ xs. (front_of xs).0) e ∙ sym (fits-is k.fits also);
    }

-- ---- a piece gives one thing

gives-one : {p q : Piece} {bs cs : List ℕ} {t u : Token} → Gives p bs t → Gives q cs u → p ≡ q → bs ≡ cs → t ≡ u
gives-one (Cut.used_word w) (Cut.used_word v) e f = ap Token.Word (word-one w v f)
gives-one (Cut.used_word w) (Cut.left_out_word v) e f = absurd (word-not-left-out w v f)
gives-one (Cut.used_word w) (Cut.new_name h k) e f = absurd (h w f)
gives-one (Cut.left_out_word v) (Cut.used_word w) e f = absurd (word-not-left-out w v (sym f))
gives-one (Cut.left_out_word v) (Cut.left_out_word w) e f = refl
gives-one (Cut.left_out_word v) (Cut.new_name h k) e f = absurd (k v f)
gives-one (Cut.new_name h k) (Cut.used_word w) e f = absurd (h w (sym f))
gives-one (Cut.new_name h k) (Cut.left_out_word v) e f = absurd (k v (sym f))
gives-one (Cut.new_name h k) (Cut.new_name i j) e f = ap Token.Id f
gives-one (Cut.number_in_range h) (Cut.number_in_range k) e f = ap (λ ds. Token.Int (decimal ds)) f
gives-one (Cut.used_word w) (Cut.number_in_range h2) e f = cc
gives-one (Cut.used_word w) Cut.duration e f = cc
gives-one (Cut.used_word w) Cut.free_text e f = cc
gives-one (Cut.used_word w) (Cut.mark s2) e f = cc
gives-one (Cut.used_word w) (Cut.character c2) e f = cc
gives-one (Cut.left_out_word w) (Cut.number_in_range h2) e f = cc
gives-one (Cut.left_out_word w) Cut.duration e f = cc
gives-one (Cut.left_out_word w) Cut.free_text e f = cc
gives-one (Cut.left_out_word w) (Cut.mark s2) e f = cc
gives-one (Cut.left_out_word w) (Cut.character c2) e f = cc
gives-one (Cut.new_name h k) (Cut.number_in_range h2) e f = cc
gives-one (Cut.new_name h k) Cut.duration e f = cc
gives-one (Cut.new_name h k) Cut.free_text e f = cc
gives-one (Cut.new_name h k) (Cut.mark s2) e f = cc
gives-one (Cut.new_name h k) (Cut.character c2) e f = cc
gives-one (Cut.number_in_range h) (Cut.used_word w2) e f = cc
gives-one (Cut.number_in_range h) (Cut.left_out_word w2) e f = cc
gives-one (Cut.number_in_range h) (Cut.new_name h2 k2) e f = cc
gives-one (Cut.number_in_range h) Cut.duration e f = cc
gives-one (Cut.number_in_range h) Cut.free_text e f = cc
gives-one (Cut.number_in_range h) (Cut.mark s2) e f = cc
gives-one (Cut.number_in_range h) (Cut.character c2) e f = cc
gives-one Cut.duration (Cut.used_word w2) e f = cc
gives-one Cut.duration (Cut.left_out_word w2) e f = cc
gives-one Cut.duration (Cut.new_name h2 k2) e f = cc
gives-one Cut.duration (Cut.number_in_range h2) e f = cc
gives-one Cut.duration Cut.duration e f = refl
gives-one Cut.duration Cut.free_text e f = cc
gives-one Cut.duration (Cut.mark s2) e f = cc
gives-one Cut.duration (Cut.character c2) e f = cc
gives-one Cut.free_text (Cut.used_word w2) e f = cc
gives-one Cut.free_text (Cut.left_out_word w2) e f = cc
gives-one Cut.free_text (Cut.new_name h2 k2) e f = cc
gives-one Cut.free_text (Cut.number_in_range h2) e f = cc
gives-one Cut.free_text Cut.duration e f = cc
gives-one Cut.free_text Cut.free_text e f = refl
gives-one Cut.free_text (Cut.mark s2) e f = cc
gives-one Cut.free_text (Cut.character c2) e f = cc
gives-one (Cut.mark s) (Cut.used_word w2) e f = cc
gives-one (Cut.mark s) (Cut.left_out_word w2) e f = cc
gives-one (Cut.mark s) (Cut.new_name h2 k2) e f = cc
gives-one (Cut.mark s) (Cut.number_in_range h2) e f = cc
gives-one (Cut.mark s) Cut.duration e f = cc
gives-one (Cut.mark s) Cut.free_text e f = cc
gives-one (Cut.mark s) (Cut.mark s2) e f = cc
gives-one (Cut.mark s) (Cut.character c2) e f = cc
gives-one (Cut.character c) (Cut.used_word w2) e f = cc
gives-one (Cut.character c) (Cut.left_out_word w2) e f = cc
gives-one (Cut.character c) (Cut.new_name h2 k2) e f = cc
gives-one (Cut.character c) (Cut.number_in_range h2) e f = cc
gives-one (Cut.character c) Cut.duration e f = cc
gives-one (Cut.character c) Cut.free_text e f = cc
gives-one (Cut.character c) (Cut.mark s2) e f = cc
gives-one (Cut.character c) (Cut.character c2) e f = cc

fault-one : {p q : Piece} {bs cs : List ℕ} {place other : Span} {x y : LexError} → IsFault p bs place x → IsFault q cs other y → p ≡ q → place ≡ other → x ≡ y
fault-one Cut.no_piece Cut.no_piece e f = ap LexError.BadByte f
fault-one Cut.unended_comment Cut.unended_comment e f = ap LexError.OpenComment f
fault-one Cut.unended_text Cut.unended_text e f = ap LexError.OpenText f
fault-one (Cut.number_too_large h) (Cut.number_too_large k) e f = ap LexError.IntegerTooLarge f
fault-one a b e f = cc

gap-not-token : {p q : Piece} {bs : List ℕ} {t : Token} → IsGap p → Gives q bs t → p ≡ q → ⊥
gap-not-token Cut.by_blanks (Cut.used_word w) e = cc
gap-not-token Cut.by_blanks (Cut.left_out_word w) e = cc
gap-not-token Cut.by_blanks (Cut.new_name h k) e = cc
gap-not-token Cut.by_blanks (Cut.number_in_range h) e = cc
gap-not-token Cut.by_blanks Cut.duration e = cc
gap-not-token Cut.by_blanks Cut.free_text e = cc
gap-not-token Cut.by_blanks (Cut.mark s) e = cc
gap-not-token Cut.by_blanks (Cut.character c) e = cc
gap-not-token Cut.by_comment (Cut.used_word w) e = cc
gap-not-token Cut.by_comment (Cut.left_out_word w) e = cc
gap-not-token Cut.by_comment (Cut.new_name h k) e = cc
gap-not-token Cut.by_comment (Cut.number_in_range h) e = cc
gap-not-token Cut.by_comment Cut.duration e = cc
gap-not-token Cut.by_comment Cut.free_text e = cc
gap-not-token Cut.by_comment (Cut.mark s) e = cc
gap-not-token Cut.by_comment (Cut.character c) e = cc

gap-not-fault : {p q : Piece} {bs : List ℕ} {place : Span} {x : LexError} → IsGap p → IsFault q bs place x → p ≡ q → ⊥
gap-not-fault Cut.by_blanks Cut.no_piece e = cc
gap-not-fault Cut.by_blanks Cut.unended_comment e = cc
gap-not-fault Cut.by_blanks Cut.unended_text e = cc
gap-not-fault Cut.by_blanks (Cut.number_too_large h) e = cc
gap-not-fault Cut.by_comment Cut.no_piece e = cc
gap-not-fault Cut.by_comment Cut.unended_comment e = cc
gap-not-fault Cut.by_comment Cut.unended_text e = cc
gap-not-fault Cut.by_comment (Cut.number_too_large h) e = cc

token-not-fault : {p q : Piece} {bs cs : List ℕ} {t : Token} {place : Span} {x : LexError} → Gives p bs t → IsFault q cs place x → p ≡ q → bs ≡ cs → ⊥
token-not-fault (Cut.number_in_range h) (Cut.number_too_large k) e f = let less = rw f at h in omega (arith, less)
token-not-fault (Cut.used_word w) Cut.no_piece e f = cc
token-not-fault (Cut.used_word w) Cut.unended_comment e f = cc
token-not-fault (Cut.used_word w) Cut.unended_text e f = cc
token-not-fault (Cut.used_word w) (Cut.number_too_large h2) e f = cc
token-not-fault (Cut.left_out_word w) Cut.no_piece e f = cc
token-not-fault (Cut.left_out_word w) Cut.unended_comment e f = cc
token-not-fault (Cut.left_out_word w) Cut.unended_text e f = cc
token-not-fault (Cut.left_out_word w) (Cut.number_too_large h2) e f = cc
token-not-fault (Cut.new_name h k) Cut.no_piece e f = cc
token-not-fault (Cut.new_name h k) Cut.unended_comment e f = cc
token-not-fault (Cut.new_name h k) Cut.unended_text e f = cc
token-not-fault (Cut.new_name h k) (Cut.number_too_large h2) e f = cc
token-not-fault (Cut.number_in_range h) Cut.no_piece e f = cc
token-not-fault (Cut.number_in_range h) Cut.unended_comment e f = cc
token-not-fault (Cut.number_in_range h) Cut.unended_text e f = cc
token-not-fault Cut.duration Cut.no_piece e f = cc
token-not-fault Cut.duration Cut.unended_comment e f = cc
token-not-fault Cut.duration Cut.unended_text e f = cc
token-not-fault Cut.duration (Cut.number_too_large h2) e f = cc
token-not-fault Cut.free_text Cut.no_piece e f = cc
token-not-fault Cut.free_text Cut.unended_comment e f = cc
token-not-fault Cut.free_text Cut.unended_text e f = cc
token-not-fault Cut.free_text (Cut.number_too_large h2) e f = cc
token-not-fault (Cut.mark s) Cut.no_piece e f = cc
token-not-fault (Cut.mark s) Cut.unended_comment e f = cc
token-not-fault (Cut.mark s) Cut.unended_text e f = cc
token-not-fault (Cut.mark s) (Cut.number_too_large h2) e f = cc
token-not-fault (Cut.character c) Cut.no_piece e f = cc
token-not-fault (Cut.character c) Cut.unended_comment e f = cc
token-not-fault (Cut.character c) Cut.unended_text e f = cc
token-not-fault (Cut.character c) (Cut.number_too_large h2) e f = cc

-- ---- a text has one reading

not-empty : {bytes after : List ℕ} {piece : Piece} → Longest bytes after piece → bytes ++ after ≢ []
not-empty {bytes = bytes} {after = after} l e = let none = ap length e in omega (arith, fits-some l.fits, length-append bytes after, none)

both : {a b c d : List ℕ} → a ≡ b → c ≡ d → a ++ c ≡ b ++ d
both e f = rw (e, f) refl

one_cut : {before prior xs ys : List ℕ} {ts us : List Spanned} → Cut before xs ts → Cut prior ys us → before ≡ prior → xs ≡ ys → ts ≡ us
one_cut Cut.no_more Cut.no_more b e = refl
one_cut Cut.no_more (Cut.over_gap l g c) b e = absurd (not-empty l (sym e))
one_cut Cut.no_more (Cut.with_token l g c) b e = absurd (not-empty l (sym e))
one_cut (Cut.over_gap l g c) Cut.no_more b e = absurd (not-empty l e)
one_cut (Cut.over_gap l g c) (Cut.over_gap k h d) b e = let s = same-longest l k e in one_cut c d (both b s.bytes_is) s.after_is
one_cut (Cut.over_gap l g c) (Cut.with_token k h d) b e = absurd (gap-not-token g h (same-longest l k e).piece_is)
one_cut (Cut.with_token l g c) Cut.no_more b e = absurd (not-empty l e)
one_cut (Cut.with_token l g c) (Cut.over_gap k h d) b e = absurd (gap-not-token h g (sym (same-longest l k e).piece_is))
one_cut (Cut.with_token l g c) (Cut.with_token k h d) b e =
    let s = same-longest l k e in
    let token = gives-one g h s.piece_is s.bytes_is in
    let rest = one_cut c d (both b s.bytes_is) s.after_is in
    rw (token, b, rest) refl

one_fault : {before prior xs ys : List ℕ} {x y : LexError} → Stops before xs x → Stops prior ys y → before ≡ prior → xs ≡ ys → x ≡ y
one_fault (Cut.at_fault l f) (Cut.at_fault k g) b e = fault-one f g (same-longest l k e).piece_is (ap place_behind b)
one_fault (Cut.at_fault l f) (Cut.past_gap k g d) b e = absurd (gap-not-fault g f (sym (same-longest l k e).piece_is))
one_fault (Cut.at_fault l f) (Cut.past_token k g d) b e = let s = same-longest l k e in absurd (token-not-fault g f (sym s.piece_is) (sym s.bytes_is))
one_fault (Cut.past_gap l g c) (Cut.at_fault k f) b e = absurd (gap-not-fault g f (same-longest l k e).piece_is)
one_fault (Cut.past_gap l g c) (Cut.past_gap k h d) b e = let s = same-longest l k e in one_fault c d (both b s.bytes_is) s.after_is
one_fault (Cut.past_gap l g c) (Cut.past_token k h d) b e = absurd (gap-not-token g h (same-longest l k e).piece_is)
one_fault (Cut.past_token l g c) (Cut.at_fault k f) b e = let s = same-longest l k e in absurd (token-not-fault g f s.piece_is s.bytes_is)
one_fault (Cut.past_token l g c) (Cut.past_gap k h d) b e = absurd (gap-not-token h g (sym (same-longest l k e).piece_is))
one_fault (Cut.past_token l g c) (Cut.past_token k h d) b e = let s = same-longest l k e in one_fault c d (both b s.bytes_is) s.after_is

not_both : {before prior xs ys : List ℕ} {ts : List Spanned} {x : LexError} → Cut before xs ts → Stops prior ys x → before ≡ prior → xs ≡ ys → ⊥
not_both Cut.no_more (Cut.at_fault k f) b e = not-empty k (sym e)
not_both Cut.no_more (Cut.past_gap k g d) b e = not-empty k (sym e)
not_both Cut.no_more (Cut.past_token k g d) b e = not-empty k (sym e)
not_both (Cut.over_gap l g c) (Cut.at_fault k f) b e = gap-not-fault g f (same-longest l k e).piece_is
not_both (Cut.over_gap l g c) (Cut.past_gap k h d) b e = let s = same-longest l k e in not_both c d (both b s.bytes_is) s.after_is
not_both (Cut.over_gap l g c) (Cut.past_token k h d) b e = gap-not-token g h (same-longest l k e).piece_is
not_both (Cut.with_token l g c) (Cut.at_fault k f) b e = let s = same-longest l k e in token-not-fault g f s.piece_is s.bytes_is
not_both (Cut.with_token l g c) (Cut.past_gap k h d) b e = gap-not-token h g (sym (same-longest l k e).piece_is)
not_both (Cut.with_token l g c) (Cut.past_token k h d) b e = let s = same-longest l k e in not_both c d (both b s.bytes_is) s.after_is

pub reads-once : (text : List ℕ) → HasOneReading text
reads-once text = record {
  some_reading = reading_of text;
  one_cut = λ tokens others c d. one_cut c d refl refl;
  one_fault = λ fault other s r. one_fault s r refl refl;
  not_both = λ tokens fault c s. not_both c s refl refl;
}

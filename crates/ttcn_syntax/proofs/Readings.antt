-- What pieces are read as, where a piece and its bytes are known by equations.
use Rattle.std.proofs.Common.{◌≡◌, ℕ, ◌<◌, ◌≤◌, ◌⊎◌, true, false, List, nat_eq, length, Option, Some, None, is_some, refl, sym, subst, arith, inl, inr}
use Rattle.std.specs.List.{find}
use Rattle.std.specs.Cmp.Lexicographic.{pointwise}
use Rattle.ttcn_syntax.specs.declared.piece.Piece.{Piece}
use Rattle.ttcn_syntax.specs.declared.token.Symbol.{Symbol}
use Rattle.ttcn_syntax.specs.declared.token.Word.{Word}
use Rattle.ttcn_syntax.specs.declared.token.Token.TheVariants as Token
use Rattle.ttcn_syntax.specs.declared.place.Span.{Span}
use Rattle.ttcn_syntax.specs.declared.words.LeftOutWord.{LeftOutWord}
use Rattle.ttcn_syntax.specs.declared.error.LexError.TheVariants as lexical
use Rattle.ttcn_syntax.specs.Cut.{IsGap, Gives, IsFault, decimal, by_blanks, by_comment, used_word, left_out_word, new_name, number_in_range, duration, free_text, mark, character, no_piece, unended_comment, unended_text, number_too_large}
use Rattle.ttcn_syntax.specs.Words.{word_spelling, left_out_spelling, words_of_length, left_out_of_length}
use Rattle.ttcn_syntax.proofs.WordSearch.{found-spelled, no-word-spelled, no-left-out-spelled}

pub word-read : (bytes : List ℕ) (w : Word) → find (λ v. pointwise nat_eq (word_spelling v) bytes) (words_of_length (length bytes)) ≡ Some w → Gives Piece.Identifier bytes (Token.Word w)
word-read bytes w found =
    let is : word_spelling w ≡ bytes = found-spelled word_spelling (words_of_length (length bytes)) bytes w found in
    subst (λ bs. Gives Piece.Identifier bs (Token.Word w)) is (used_word w)

left-out-if : (bytes : List ℕ) (o : Option LeftOutWord) → find (λ v. pointwise nat_eq (left_out_spelling v) bytes) (left_out_of_length (length bytes)) ≡ o → is_some o ≡ true → Gives Piece.Identifier bytes Token.LeftOut
left-out-if bytes None found h = cc
left-out-if bytes (Some w) found h =
    let is : left_out_spelling w ≡ bytes = found-spelled left_out_spelling (left_out_of_length (length bytes)) bytes w found in
    subst (λ bs. Gives Piece.Identifier bs Token.LeftOut) is (left_out_word w)

pub left-out-read : (bytes : List ℕ) → is_some (find (λ v. pointwise nat_eq (left_out_spelling v) bytes) (left_out_of_length (length bytes))) ≡ true → Gives Piece.Identifier bytes Token.LeftOut
left-out-read bytes h = left-out-if bytes (find (λ v. pointwise nat_eq (left_out_spelling v) bytes) (left_out_of_length (length bytes))) refl h

none-if : {W : Type 0} (o : Option W) → is_some o ≡ false → o ≡ None
none-if None h = refl
none-if (Some w) h = cc

pub name-read : (bytes name : List ℕ) → find (λ v. pointwise nat_eq (word_spelling v) bytes) (words_of_length (length bytes)) ≡ None
    → is_some (find (λ v. pointwise nat_eq (left_out_spelling v) bytes) (left_out_of_length (length bytes))) ≡ false
    → name ≡ bytes → Gives Piece.Identifier bytes (Token.Id name)
name-read bytes name unused kept is =
    let none = none-if (find (λ v. pointwise nat_eq (left_out_spelling v) bytes) (left_out_of_length (length bytes))) kept in
    subst (λ bs. Gives Piece.Identifier bytes (Token.Id bs)) (sym is) (new_name (no-word-spelled bytes unused) (no-left-out-spelled bytes none))

pub no-word-found : {W : Type 0} (o : Option W) → ((w : W) → o ≡ Some w → ⊥) → o ≡ None
no-word-found None h = refl
no-word-found (Some w) h = absurd (h w refl)

pub gap-read : {p : Piece} → (p ≡ Piece.Blanks) ⊎ (p ≡ Piece.Comment) → IsGap p
gap-read (inl e) = subst IsGap (sym e) by_blanks
gap-read (inr e) = subst IsGap (sym e) by_comment

pub integer-read : {p : Piece} {value : ℕ} (bytes : List ℕ) → p ≡ Piece.Integer → decimal bytes ≤ 9223372036854775807 → value ≡ decimal bytes → Gives p bytes (Token.Int value)
integer-read bytes e within is = rw (e, is) (number_in_range within)

pub large-read : {p : Piece} (bytes : List ℕ) (place : Span) → p ≡ Piece.Integer → ¬ (decimal bytes ≤ 9223372036854775807) → IsFault p bytes place (lexical.IntegerTooLarge place)
large-read bytes place e large = let above : 9223372036854775807 < decimal bytes = omega arith in rw e (number_too_large above)

pub float-read : {p : Piece} (bytes : List ℕ) → p ≡ Piece.Float → Gives p bytes Token.Float
float-read bytes e = rw e duration

pub text-read : {p : Piece} (bytes : List ℕ) → p ≡ Piece.Text → Gives p bytes Token.Text
text-read bytes e = rw e free_text

pub symbol-read : {p : Piece} {s : Symbol} (bytes : List ℕ) → p ≡ Piece.Symbol s → Gives p bytes (Token.Symbol s)
symbol-read {s = s} bytes e = rw e (mark s)

pub other-read : {p : Piece} {b : ℕ} (bytes : List ℕ) → p ≡ Piece.Other b → Gives p bytes (Token.Other b)
other-read {b = b} bytes e = rw e (character b)

pub open-comment-read : {p : Piece} (bytes : List ℕ) (place : Span) → p ≡ Piece.OpenComment → IsFault p bytes place (lexical.OpenComment place)
open-comment-read bytes place e = rw e unended_comment

pub open-text-read : {p : Piece} (bytes : List ℕ) (place : Span) → p ≡ Piece.OpenText → IsFault p bytes place (lexical.OpenText place)
open-text-read bytes place e = rw e unended_text

pub bad-byte-read : {p : Piece} (bytes : List ℕ) (place : Span) → p ≡ Piece.BadByte → IsFault p bytes place (lexical.BadByte place)
bad-byte-read bytes place e = rw e no_piece

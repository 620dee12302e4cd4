-- A cut, or the way to a fault, one piece longer at its front; and the places in a text.
use Rattle.std.proofs.Common.{◌≡◌, ℕ, ◌≢◌, ◌+◌, ◌<◌, ◌≤◌, ◌⊎◌, ◌↔◌, ◌==◌, cond, List, [], ◌∷◌, ◌++◌, length, take, drop, fold, reverse, Result, Err, Option, Some, None, MatchOption, ◌-◌, length-drop, length-take, refl, ap, arith, ◌∙◌, subst, inl, inr, append_assoc, append-nil}
use Rattle.std.specs.List.{count_by, suffix_len, prefix_len}
use Rattle.std.proofs.lemmas.Bool.Decides.{eqb_tells}
use Rattle.std.proofs.lemmas.List.{take-append-drop, drop-drop, drop_all, take_all, drop-take, take-take, reverse-append}
use Rattle.std.proofs.lemmas.List.Sums.{sum_by-append}
use Rattle.ttcn_syntax.specs.declared.piece.Piece.{Piece}
use Rattle.ttcn_syntax.specs.declared.place.Span.{Span}
use Rattle.ttcn_syntax.specs.declared.token.Token.{Token}
use Rattle.ttcn_syntax.specs.declared.token.Spanned.{Spanned}
use Rattle.ttcn_syntax.specs.declared.error.LexError.{LexError}
use Rattle.ttcn_syntax.specs.Characters.{is_within_line}
use Rattle.ttcn_syntax.specs.Places.{place_behind, next_place}
use Rattle.ttcn_syntax.specs.Cut
use Rattle.ttcn_syntax.specs.Cut.{Longest, IsGap, Gives, IsFault, Cut, Stops}

-- n places further
further : (at n : ℕ) (text : List ℕ) → take at text ++ take n (drop at text) ≡ take (at + n) text
further at n text =
    let front : take at (take (at + n) text) ≡ take at text = take-take at (at + n) text (omega arith) in
    let back : drop at (take (at + n) text) ≡ take n (drop at text) = drop-take at n text in
    rw (← front, ← back) (take-append-drop at (take (at + n) text))

pub cut-gap : (text : List ℕ) (at n : ℕ) {piece : Piece} (tokens : List Spanned)
    → Longest (take n (drop at text)) (drop n (drop at text)) piece → IsGap piece
    → Cut (take (at + n) text) (drop (at + n) text) tokens → Cut (take at text) (drop at text) tokens
cut-gap text at n tokens l g c =
    let here : Cut (take at text ++ take n (drop at text)) (drop n (drop at text)) tokens = rw (further at n text, drop-drop n at text) c in
    subst (λ xs. Cut (take at text) xs tokens) (take-append-drop n (drop at text)) (Cut.over_gap l g here)

pub cut-token : (text : List ℕ) (at n : ℕ) {piece : Piece} {token : Token} (tokens : List Spanned)
    → Longest (take n (drop at text)) (drop n (drop at text)) piece → Gives piece (take n (drop at text)) token
    → Cut (take (at + n) text) (drop (at + n) text) tokens
    → Cut (take at text) (drop at text) (record { token = token; place = place_behind (take at text) } ∷ tokens)
cut-token text at n {token = token} tokens l g c =
    let here : Cut (take at text ++ take n (drop at text)) (drop n (drop at text)) tokens = rw (further at n text, drop-drop n at text) c in
    subst (λ xs. Cut (take at text) xs (record { token = token; place = place_behind (take at text) } ∷ tokens)) (take-append-drop n (drop at text)) (Cut.with_token l g here)

pub stops-gap : (text : List ℕ) (at n : ℕ) {piece : Piece} (fault : LexError)
    → Longest (take n (drop at text)) (drop n (drop at text)) piece → IsGap piece
    → Stops (take (at + n) text) (drop (at + n) text) fault → Stops (take at text) (drop at text) fault
stops-gap text at n fault l g c =
    let here : Stops (take at text ++ take n (drop at text)) (drop n (drop at text)) fault = rw (further at n text, drop-drop n at text) c in
    subst (λ xs. Stops (take at text) xs fault) (take-append-drop n (drop at text)) (Cut.past_gap l g here)

pub stops-token : (text : List ℕ) (at n : ℕ) {piece : Piece} {token : Token} (fault : LexError)
    → Longest (take n (drop at text)) (drop n (drop at text)) piece → Gives piece (take n (drop at text)) token
    → Stops (take (at + n) text) (drop (at + n) text) fault → Stops (take at text) (drop at text) fault
stops-token text at n fault l g c =
    let here : Stops (take at text ++ take n (drop at text)) (drop n (drop at text)) fault = rw (further at n text, drop-drop n at text) c in
    subst (λ xs. Stops (take at text) xs fault) (take-append-drop n (drop at text)) (Cut.past_token l g here)

pub stops-here : (text : List ℕ) (at n : ℕ) {piece : Piece} (fault : LexError)
    → Longest (take n (drop at text)) (drop n (drop at text)) piece → IsFault piece (take n (drop at text)) (place_behind (take at text)) fault
    → Stops (take at text) (drop at text) fault
stops-here text at n fault l f =
    subst (λ xs. Stops (take at text) xs fault) (take-append-drop n (drop at text)) (Cut.at_fault l f)

-- ---- places

lines-push : (xs : List ℕ) (b : ℕ) → count_by (λ c. c == 10) (xs ++ b ∷ []) ≡ count_by (λ c. c == 10) xs + count_by (λ c. c == 10) (b ∷ [])
lines-push xs b = sum_by-append (λ c. cond (c == 10) 1 0) xs (b ∷ [])

column-push : (xs : List ℕ) (b : ℕ) → suffix_len is_within_line (xs ++ b ∷ []) ≡ prefix_len is_within_line (b ∷ reverse xs)
column-push xs b = ap (prefix_len is_within_line) (reverse-append xs (b ∷ []))

same-place : (a b c d : ℕ) → a ≡ c → b ≡ d → ◌≡◌ {A = Span} (record { line = a; column = b }) (record { line = c; column = d })
same-place a b c d lines columns = rw (lines, columns) refl

next_place-behind : (xs : List ℕ) (b : ℕ) → next_place (place_behind xs) b ≡ place_behind (xs ++ b ∷ [])
next_place-behind xs b = elim (eqb_tells b 10) [
  | inl end ↦
      let lines : count_by (λ c. c == 10) (xs ++ b ∷ []) ≡ count_by (λ c. c == 10) xs + 1 = lines-push xs b ∙ (rw end.0 refl) in
      let column : suffix_len is_within_line (xs ++ b ∷ []) ≡ 0 = column-push xs b ∙ (rw end.0 refl) in
      rw end.0 (same-place (1 + count_by (λ c. c == 10) xs + 1) 1 (1 + count_by (λ c. c == 10) (xs ++ b ∷ [])) (1 + suffix_len is_within_line (xs ++ b ∷ [])) (omega (arith, lines)) (omega (arith, column)))
  | inr more ↦
      let lines : count_by (λ c. c == 10) (xs ++ b ∷ []) ≡ count_by (λ c. c == 10) xs + 0 = lines-push xs b ∙ (rw more.0 refl) in
      let column : suffix_len is_within_line (xs ++ b ∷ []) ≡ 1 + suffix_len is_within_line xs = column-push xs b ∙ (rw more.0 refl) in
      rw more.0 (same-place (1 + count_by (λ c. c == 10) xs) (1 + suffix_len is_within_line xs + 1) (1 + count_by (λ c. c == 10) (xs ++ b ∷ [])) (1 + suffix_len is_within_line (xs ++ b ∷ [])) (omega (arith, lines)) (omega (arith, column)))
]

pub places : (before bytes : List ℕ) → fold next_place (place_behind before) bytes ≡ place_behind (before ++ bytes)
places before [] = rw (append-nil before) refl
places before (b ∷ bs) =
    rw (next_place-behind before b) (places (before ++ b ∷ []) bs ∙ ap place_behind (append_assoc before (b ∷ []) bs))

-- ---- the loop over the text

-- the text is read up to here: these tokens are those before, and this is the place
pub record IsReadTo (text : List ℕ) (at : ℕ) (place : Span) (tokens : List Spanned) : Type 0 where
  pub within : at ≤ length text
  pub line : place.line ≤ at + 1
  pub column : place.column ≤ at + 1
  pub place_is : place ≡ place_behind (take at text)
  pub cut : (rest : List Spanned) → Cut (take at text) (drop at text) rest → Cut [] text (tokens ++ rest)
  pub stops : (fault : LexError) → Stops (take at text) (drop at text) fault → Stops [] text fault

-- the place behind the next piece
place-on : (text : List ℕ) (at n : ℕ) (place next : Span) → place ≡ place_behind (take at text) → next ≡ fold next_place place (take n (drop at text))
    → next ≡ place_behind (take (at + n) text)
place-on text at n place next is moved =
    moved ∙ ap (λ p. fold next_place p (take n (drop at text))) is ∙ places (take at text) (take n (drop at text)) ∙ ap place_behind (further at n text)

pub read-gap : (text : List ℕ) (at n : ℕ) (place next : Span) (tokens after : List Spanned) {piece : Piece}
    → IsReadTo text at place tokens → Longest (take n (drop at text)) (drop n (drop at text)) piece → IsGap piece
    → at + n ≤ length text → next.line ≤ at + n + 1 → next.column ≤ at + n + 1
    → next ≡ fold next_place place (take n (drop at text)) → after ≡ tokens
    → IsReadTo text (at + n) next after
read-gap text at n place next tokens after r l g within line column moved same = record {
  within = within;
  line = line;
  column = column;
  place_is = place-on text at n place next r.place_is moved;
  cut = λ rest c. rw same (r.cut rest (cut-gap text at n rest l g c));
  stops = λ fault s. r.stops fault (stops-gap text at n fault l g s);
}

pub read-token : (text : List ℕ) (at n : ℕ) (place next : Span) (tokens after : List Spanned) {piece : Piece} (token : Token)
    → IsReadTo text at place tokens → Longest (take n (drop at text)) (drop n (drop at text)) piece → Gives piece (take n (drop at text)) token
    → at + n ≤ length text → next.line ≤ at + n + 1 → next.column ≤ at + n + 1
    → next ≡ fold next_place place (take n (drop at text)) → after ≡ tokens ++ record { token = token; place = place } ∷ []
    → IsReadTo text (at + n) next after
read-token text at n place next tokens after token r l g within line column moved same = record {
  within = within;
  line = line;
  column = column;
  place_is = place-on text at n place next r.place_is moved;
  cut = λ rest c.
      let here = r.cut (record { token = token; place = place_behind (take at text) } ∷ rest) (cut-token text at n rest l g c) in
      rw (same, append_assoc tokens (record { token = token; place = place } ∷ []) rest, r.place_is) here;
  stops = λ fault s. r.stops fault (stops-token text at n fault l g s);
}

-- the text is read to its end
pub read_all : (text : List ℕ) (at : ℕ) (place : Span) (tokens : List Spanned) → IsReadTo text at place tokens → length text ≤ at → Cut [] text tokens
read_all text at place tokens r end =
    let none : drop at text ≡ [] = drop_all at text end in
    rw (← append-nil tokens) (r.cut [] (rw none Cut.no_more))

-- the text is read up to a fault
pub read_fault : (text : List ℕ) (at n : ℕ) (place : Span) (tokens : List Spanned) {piece : Piece} (fault : LexError)
    → IsReadTo text at place tokens → Longest (take n (drop at text)) (drop n (drop at text)) piece
    → IsFault piece (take n (drop at text)) place fault → Stops [] text fault
read_fault text at n place tokens fault r l f = r.stops fault (stops-here text at n fault l (rw r.place_is at f))

no-fault-too-long : {piece : Piece} {bytes : List ℕ} {place : Span} {fault : LexError} → IsFault piece bytes place fault → fault ≢ LexError.TextTooLong
no-fault-too-long Cut.no_piece e = cc
no-fault-too-long Cut.unended_comment e = cc
no-fault-too-long Cut.unended_text e = cc
no-fault-too-long (Cut.number_too_large h) e = cc

-- a fault that is found is another than the text's length
pub other_fault : {T : Type 0} {piece : Piece} {bytes : List ℕ} {place : Span} (length limit : ℕ) (result : Result T LexError) (fault : LexError) → result ≡ Err fault
    → (fault ≡ LexError.Memory) ⊎ IsFault piece bytes place fault → length ≤ limit
    → (result ≡ Err LexError.TextTooLong) ↔ (limit < length)
other_fault length limit result fault is (inl memory) within = (λ e. cc, λ h. absurd (omega arith))
other_fault length limit result fault is (inr f) within = (λ e. absurd (no-fault-too-long f cc), λ h. absurd (omega arith))

-- a part to the end is the rest
pub rest-is : (text : List ℕ) (at : ℕ) → take (length text - at) (drop at text) ≡ drop at text
rest-is text at = take_all (length text - at) (drop at text) (omega (arith, length-drop at text))

-- a piece stays within the text
pub piece-within : (text : List ℕ) (at n : ℕ) → at ≤ length text → n ≤ length (drop at text) → at + n ≤ length text
piece-within text at n before h = omega (arith, length-drop at text)

-- one part of a place stays within the bytes that were read
pub part-within : (text : List ℕ) (at n part next : ℕ) → part ≤ at + 1 → next ≤ part + length (take n (drop at text)) → next ≤ at + n + 1
part-within text at n part next h more = omega (arith, length-take n (drop at text))

-- nothing that is read is a gap
pub nothing-read : {T : Type 0} (o : Option T) (P : Type 0) (Q : T → Type 0) → MatchOption o P Q → ((x : T) → o ≡ Some x → ⊥) → P
nothing-read None P Q h none = h
nothing-read (Some x) P Q h none = absurd (none x refl)

-- Each text has a cut or a leftmost fault: at each place stands a piece, and it is a gap, a token or a fault.
use Rattle.std.proofs.Common.{◌≡◌, ℕ, ◌<◌, ◌≤◌, ◌⊎◌, zero, suc, true, false, Bool, List, [], ◌∷◌, ◌++◌, nat_eq, length, take, drop, Option, Some, None, is_some, refl, subst, arith, inl, inr, length-drop}
use Rattle.std.specs.List.{find}
use Rattle.std.specs.Cmp.Lexicographic.{pointwise}
use Rattle.std.proofs.lemmas.Bool.{cases_lt}
use Rattle.std.proofs.lemmas.List.{take-append-drop}
use Rattle.ttcn_syntax.specs.declared.piece.Piece.{Piece}
use Rattle.ttcn_syntax.specs.declared.piece.Piece.TheVariants as Stands
use Rattle.ttcn_syntax.specs.declared.place.Span.{Span}
use Rattle.ttcn_syntax.specs.declared.error.LexError.{LexError}
use Rattle.ttcn_syntax.specs.declared.token.Token.{Token}
use Rattle.ttcn_syntax.specs.declared.token.Spanned.{Spanned}
use Rattle.ttcn_syntax.specs.declared.token.Word.{Word}
use Rattle.ttcn_syntax.specs.Cut
use Rattle.ttcn_syntax.specs.Cut.{Longest, IsGap, Gives, IsFault, Cut, Stops, decimal}
use Rattle.ttcn_syntax.specs.Front.{front_of}
use Rattle.ttcn_syntax.specs.Places.{place_behind}
use Rattle.ttcn_syntax.specs.Words.{word_spelling, left_out_spelling, words_of_length, left_out_of_length}
use Rattle.ttcn_syntax.proofs.Fronts.{IsFront, front-is}
use Rattle.ttcn_syntax.proofs.Readings.{word-read, left-out-read, name-read}

-- ---- a piece is something

-- a word that isn't used is left out or a name
unused-is : (bytes : List ℕ) (kept : Bool) → find (λ v. pointwise nat_eq (word_spelling v) bytes) (words_of_length (length bytes)) ≡ None
    → is_some (find (λ v. pointwise nat_eq (left_out_spelling v) bytes) (left_out_of_length (length bytes))) ≡ kept
    → (token : Token) × Gives Piece.Identifier bytes token
unused-is bytes true unused h = (Token.LeftOut, left-out-read bytes h)
unused-is bytes false unused h = (Token.Id bytes, name-read bytes bytes unused h refl)

word-if : (bytes : List ℕ) (o : Option Word) → find (λ v. pointwise nat_eq (word_spelling v) bytes) (words_of_length (length bytes)) ≡ o
    → (token : Token) × Gives Piece.Identifier bytes token
word-if bytes (Some w) found = (Token.Word w, word-read bytes w found)
word-if bytes None found = unused-is bytes (is_some (find (λ v. pointwise nat_eq (left_out_spelling v) bytes) (left_out_of_length (length bytes)))) found refl

word-is : (bytes : List ℕ) → (token : Token) × Gives Piece.Identifier bytes token
word-is bytes = word-if bytes (find (λ v. pointwise nat_eq (word_spelling v) bytes) (words_of_length (length bytes))) refl

-- a gap, a token or a fault
abbrev IsSomething : Piece → List ℕ → Span → Type 0
IsSomething piece bytes place =
    IsGap piece ⊎ (((token : Token) × Gives piece bytes token) ⊎ ((fault : LexError) × IsFault piece bytes place fault))

number_is : (bytes : List ℕ) (place : Span) → (9223372036854775807 < decimal bytes) ⊎ (decimal bytes ≤ 9223372036854775807)
    → IsSomething Piece.Integer bytes place
number_is bytes place (inl large) = inr (inr (LexError.IntegerTooLarge place, Cut.number_too_large large))
number_is bytes place (inr within) = inr (inl (Token.Int (decimal bytes), Cut.number_in_range within))

piece-is-something : (piece : Piece) (bytes : List ℕ) (place : Span) → IsSomething piece bytes place
piece-is-something Stands.Blanks bytes place = inl Cut.by_blanks
piece-is-something Stands.Comment bytes place = inl Cut.by_comment
piece-is-something Stands.Identifier bytes place = inr (inl (word-is bytes))
piece-is-something Stands.Integer bytes place = number_is bytes place (cases_lt 9223372036854775807 (decimal bytes))
piece-is-something Stands.Float bytes place = inr (inl (Token.Float, Cut.duration))
piece-is-something Stands.Text bytes place = inr (inl (Token.Text, Cut.free_text))
piece-is-something (Stands.Symbol symbol) bytes place = inr (inl (Token.Symbol symbol, Cut.mark symbol))
piece-is-something (Stands.Other b) bytes place = inr (inl (Token.Other b, Cut.character b))
piece-is-something Stands.OpenComment bytes place = inr (inr (LexError.OpenComment place, Cut.unended_comment))
piece-is-something Stands.OpenText bytes place = inr (inr (LexError.OpenText place, Cut.unended_text))
piece-is-something Stands.BadByte bytes place = inr (inr (LexError.BadByte place, Cut.no_piece))

-- ---- a text has a reading

-- the rest of a text is cut, or cut up to a fault
abbrev HasReading : List ℕ → List ℕ → Type 0
HasReading before rest = ((tokens : List Spanned) × Cut before rest tokens) ⊎ ((fault : LexError) × Stops before rest fault)

-- one piece more at the front
piece-more : (before bytes after : List ℕ) (piece : Piece) → Longest bytes after piece
    → IsSomething piece bytes (place_behind before) → HasReading (before ++ bytes) after → HasReading before (bytes ++ after)
piece-more before bytes after piece l (inl gap) (inl cut) = inl (cut.0, Cut.over_gap l gap cut.1)
piece-more before bytes after piece l (inl gap) (inr stop) = inr (stop.0, Cut.past_gap l gap stop.1)
piece-more before bytes after piece l (inr (inl token)) (inl cut) =
    inl (record { token = token.0; place = place_behind before } ∷ cut.0, Cut.with_token l token.1 cut.1)
piece-more before bytes after piece l (inr (inl token)) (inr stop) = inr (stop.0, Cut.past_token l token.1 stop.1)
piece-more before bytes after piece l (inr (inr fault)) later = inr (fault.0, Cut.at_fault l fault.1)

front-more : (before rest : List ℕ) (found : Piece × ℕ) → IsFront rest found
    → ((prior after : List ℕ) → length after < length rest → HasReading prior after) → HasReading before rest
front-more before rest found front later =
    let bytes = take found.1 rest in
    let after = drop found.1 rest in
    let less : length (drop found.1 rest) < length rest = omega (arith, length-drop found.1 rest, front.some, front.within) in
    let read = piece-more before bytes after found.0 front.longest (piece-is-something found.0 bytes (place_behind before)) (later (before ++ bytes) after less) in
    subst (λ xs. HasReading before xs) (take-append-drop found.1 rest) read

reading-below : (n : ℕ) (before rest : List ℕ) → length rest < n → HasReading before rest
reading-below zero before rest h = absurd (omega arith)
reading-below (suc n) before [] h = inl ([], Cut.no_more)
reading-below (suc n) before (b ∷ xs) h =
    front-more before (b ∷ xs) (front_of (b ∷ xs)) (front-is (b ∷ xs) (omega arith))
    (λ prior after less. reading-below n prior after (omega (arith, less, h)))

pub reading_of : (text : List ℕ) → ((tokens : List Spanned) × Cut [] text tokens) ⊎ ((fault : LexError) × Stops [] text fault)
reading_of text = reading-below (suc (length text)) [] text (omega arith)

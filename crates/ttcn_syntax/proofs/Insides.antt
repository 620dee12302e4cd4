-- How the insides of texts and comments are read on, place by place.
use Rattle.std.proofs.Common.{◌≡◌, ◌≢◌, ℕ, suc, ◌+◌, ◌<◌, ◌≤◌, true, false, ◌==◌, ◌&&◌, if◌then◌else◌, List, [], ◌∷◌, ◌++◌, length, get_or, drop, slice_index, refl, ap, arith, sym, inl, inr, add-one, drop-cons}
use Rattle.std.proofs.lemmas.Bool.Decides.{nat_tests, eqb_tells}
use Rattle.ttcn_syntax.specs.declared.piece.Piece.{Piece}
use Rattle.ttcn_syntax.specs.declared.piece.Piece.TheVariants.{Comment, Text, OpenText}
use Rattle.ttcn_syntax.specs.Cut.{Quoted, nothing, one_byte, two_quotes, HasNoEnd}
use Rattle.ttcn_syntax.specs.Front.{inside_text, inside_comment}

-- a byte that is no quote
inside_text-other : (b : ℕ) (bs : List ℕ) (n : ℕ) → (b == 34) ≡ false → inside_text (b ∷ bs) n ≡ inside_text bs (n + 1)
inside_text-other b [] n h = rw h
inside_text-other b (c ∷ bs) n h = rw h

pub past-other : (xs : List ℕ) (at : ℕ) → at < length xs → get_or xs at 0 ≢ 34 → inside_text (drop (at + 1) xs) (at + 1) ≡ inside_text (drop at xs) at
past-other xs at h ne =
    let off : (get_or xs at 0 == 34) ≡ false = grind (arith, nat_tests) in
    let e : drop at xs ≡ get_or xs at 0 ∷ drop (at + 1) xs = rw add-one (drop-cons xs at 0 h) in
    rw e (sym (inside_text-other (get_or xs at 0) (drop (at + 1) xs) at off))

-- two quotes in a row
pub past-quotes : (xs : List ℕ) (at : ℕ) → at + 1 < length xs → get_or xs at 0 ≡ 34 → get_or xs (at + 1) 0 ≡ 34 → inside_text (drop (at + 2) xs) (at + 2) ≡ inside_text (drop at xs) at
past-quotes xs at h first second =
    let lt : at < length xs = omega arith in
    let e : drop at xs ≡ get_or xs at 0 ∷ drop (at + 1) xs = rw add-one (drop-cons xs at 0 lt) in
    let two : suc (at + 1) ≡ at + 2 = omega arith in
    let f : drop (at + 1) xs ≡ get_or xs (at + 1) 0 ∷ drop (at + 2) xs = rw two at (drop-cons xs (at + 1) 0 h) in
    rw (e, f, first, second) refl

-- ---- what is quoted lies within what the code reads

-- the end lies behind the begin
text-goes-on : (xs : List ℕ) (n : ℕ) → n ≤ (inside_text xs n).1
text-goes-on [] n = omega arith
text-goes-on (b ∷ []) n = elim (b == 34) as (λ t. n ≤ (if◌then◌else◌ {A = Piece × ℕ} t (Text, n + 1) (OpenText, n + 1)).1) [ true ↦ omega arith | false ↦ omega arith ]
text-goes-on (b ∷ (c ∷ bs)) n =
    let two = text-goes-on bs (n + 2) in
    let one = text-goes-on (c ∷ bs) (n + 1) in
    elim (b == 34) as (λ t. n ≤ (if◌then◌else◌ {A = Piece × ℕ} t (if◌then◌else◌ {A = Piece × ℕ} (c == 34) (inside_text bs (n + 2)) (Text, n + 1)) (inside_text (c ∷ bs) (n + 1))).1) [
      | true ↦ elim (c == 34) as (λ t. n ≤ (if◌then◌else◌ {A = Piece × ℕ} t (inside_text bs (n + 2)) (Text, n + 1)).1) [ true ↦ omega (arith, two) | false ↦ omega arith ]
      | false ↦ omega (arith, one)
    ]

-- at a quote the text ends, or goes on behind another
quote-reaches : (after : List ℕ) (n : ℕ) → n + 1 ≤ (inside_text (34 ∷ after) n).1
quote-reaches [] n = omega arith
quote-reaches (c ∷ rest) n =
    let on = text-goes-on rest (n + 2) in
    elim (c == 34) as (λ t. n + 1 ≤ (if◌then◌else◌ {A = Piece × ℕ} t (inside_text rest (n + 2)) (Text, n + 1)).1) [ true ↦ omega (arith, on) | false ↦ omega arith ]

pub text-reaches : {bs : List ℕ} (after : List ℕ) (n : ℕ) → Quoted bs → n + length bs + 1 ≤ (inside_text (bs ++ 34 ∷ after) n).1
text-reaches after n nothing = omega (arith, quote-reaches after n)
text-reaches after n (one_byte {b = b} {bs = bs} ne q) =
    let off : (b == 34) ≡ false = grind (arith, nat_tests) in
    let on = text-reaches after (n + 1) q in
    let step = inside_text-other b (bs ++ 34 ∷ after) n off in
    rw step (omega (arith, on))
text-reaches after n (two_quotes q) = omega (arith, text-reaches after (n + 2) q)

pub open-text-reaches : {bs : List ℕ} (n : ℕ) → Quoted bs → n + length bs ≤ (inside_text bs n).1
open-text-reaches n nothing = omega arith
open-text-reaches n (one_byte {b = b} {bs = bs} ne q) =
    let off : (b == 34) ≡ false = grind (arith, nat_tests) in
    let on = open-text-reaches (n + 1) q in
    let step = inside_text-other b bs n off in
    rw step (omega (arith, on))
open-text-reaches n (two_quotes q) = omega (arith, open-text-reaches (n + 2) q)

-- ---- what has no end of a comment

HasNoEnd-tail : (b : ℕ) (bs : List ℕ) → HasNoEnd (b ∷ bs) → HasNoEnd bs
HasNoEnd-tail b bs h before after e = h (b ∷ before) after (ap (λ xs. b ∷ xs) e)

-- no `*/` begins here
no-end-here : (b : ℕ) (bs : List ℕ) → HasNoEnd (b ∷ bs) → ((b == 42) && (slice_index bs 0 == 47)) ≡ false
no-end-here b [] h = elim (b == 42) as (λ t. (t && false) ≡ false) [ true ↦ refl | false ↦ refl ]
no-end-here b (c ∷ bs) h =
    elim (eqb_tells b 42) [
      | inl star ↦ elim (eqb_tells c 47) [
        | inl slash ↦ absurd (h [] bs (rw (star.1, slash.1) refl))
        | inr other ↦ rw (star.0, other.0) refl
      ]
      | inr other ↦ rw other.0 refl
    ]

pub comment-reaches : (bs after : List ℕ) (n : ℕ) → HasNoEnd (bs ++ 42 ∷ []) → n + length bs + 2 ≤ (inside_comment (bs ++ 42 ∷ (47 ∷ after)) n).1
comment-reaches [] after n h = omega arith
comment-reaches (b ∷ []) after n h =
    let off = no-end-here b (42 ∷ []) h in
    let on = comment-reaches [] after (n + 1) (HasNoEnd-tail b (42 ∷ []) h) in
    rw off (omega (arith, on))
comment-reaches (b ∷ (c ∷ bs)) after n h =
    let off = no-end-here b ((c ∷ bs) ++ 42 ∷ []) h in
    let on = comment-reaches (c ∷ bs) after (n + 1) (HasNoEnd-tail b ((c ∷ bs) ++ 42 ∷ []) h) in
    rw off (omega (arith, on))

pub open-comment-reaches : (bs : List ℕ) (n : ℕ) → HasNoEnd bs → n + length bs ≤ (inside_comment bs n).1
open-comment-reaches [] n h = omega arith
open-comment-reaches (b ∷ bs) n h =
    let off = no-end-here b bs h in
    let on = open-comment-reaches bs (n + 1) (HasNoEnd-tail b bs h) in
    rw off (omega (arith, on))

-- the end lies behind the begin
pub comment-goes-on : (xs : List ℕ) (n : ℕ) → n ≤ (inside_comment xs n).1
comment-goes-on [] n = omega arith
comment-goes-on (b ∷ bs) n =
    let on = comment-goes-on bs (n + 1) in
    elim ((b == 42) && (slice_index bs 0 == 47)) as (λ t. n ≤ (if◌then◌else◌ {A = Piece × ℕ} t (Comment, n + 2) (inside_comment bs (n + 1))).1) [ true ↦ omega arith | false ↦ omega (arith, on) ]

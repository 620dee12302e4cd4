-- Where the code finds that a text or a comment ends.
use Rattle.std.proofs.Common.{◌≡◌, ◌≢◌, ℕ, ◌+◌, ◌⊎◌, true, false, ◌==◌, ◌&&◌, List, [], ◌∷◌, ◌++◌, length, slice_index, refl, ap, subst, arith, sym, ◌∙◌, inl, inr, length-append, append_assoc, append-nil}
use Rattle.std.proofs.lemmas.Bool.Decides.{eqb_tells}
use Rattle.ttcn_syntax.specs.declared.piece.Piece.{Piece}
use Rattle.ttcn_syntax.specs.Cut.{Quoted, nothing, one_byte, two_quotes, HasNoEnd, quoted_text, open_text, block_comment, open_comment}
use Rattle.ttcn_syntax.specs.Front.{inside_text, inside_comment}
use Rattle.ttcn_syntax.proofs.Found.{Found}

-- a text ends behind these bytes
record TextEnds (xs : List ℕ) (n : ℕ) (found : Piece × ℕ) : Type 0 where
  inside : List ℕ
  after : List ℕ
  is : inside ++ 34 ∷ after ≡ xs
  quoted : Quoted inside
  piece : found.0 ≡ Piece.Text
  count : found.1 ≡ n + length inside + 1

-- a text goes on to the end of the list
record TextStays (xs : List ℕ) (n : ℕ) (found : Piece × ℕ) : Type 0 where
  quoted : Quoted xs
  piece : found.0 ≡ Piece.OpenText
  count : found.1 ≡ n + length xs

byte-more : (b : ℕ) (xs : List ℕ) (n : ℕ) (found : Piece × ℕ) → b ≢ 34
    → TextEnds xs (n + 1) found ⊎ TextStays xs (n + 1) found → TextEnds (b ∷ xs) n found ⊎ TextStays (b ∷ xs) n found
byte-more b xs n found ne (inl e) = inl (record {
  inside = b ∷ e.inside;
  after = e.after;
  is = ap (λ ys. b ∷ ys) e.is;
  quoted = one_byte ne e.quoted;
  piece = e.piece;
  count = omega (arith, e.count);
})
byte-more b xs n found ne (inr s) = inr (record { quoted = one_byte ne s.quoted; piece = s.piece; count = omega (arith, s.count) })

quotes-more : (xs : List ℕ) (n : ℕ) (found : Piece × ℕ)
    → TextEnds xs (n + 2) found ⊎ TextStays xs (n + 2) found → TextEnds (34 ∷ (34 ∷ xs)) n found ⊎ TextStays (34 ∷ (34 ∷ xs)) n found
quotes-more xs n found (inl e) = inl (record {
  inside = 34 ∷ (34 ∷ e.inside);
  after = e.after;
  is = ap (λ ys. 34 ∷ (34 ∷ ys)) e.is;
  quoted = two_quotes e.quoted;
  piece = e.piece;
  count = omega (arith, e.count);
})
quotes-more xs n found (inr s) = inr (record { quoted = two_quotes s.quoted; piece = s.piece; count = omega (arith, s.count) })

text-end : (xs : List ℕ) (n : ℕ) → TextEnds xs n (inside_text xs n) ⊎ TextStays xs n (inside_text xs n)
text-end [] n = inr (record { quoted = nothing; piece = refl; count = omega arith })
text-end (b ∷ []) n = elim (eqb_tells b 34) [
  | inl quote ↦ inl (record {
    inside = [];
    after = [];
    is = ap (λ c. c ∷ []) (sym quote.1);
    quoted = nothing;
    piece = rw quote.0 refl;
    count = rw quote.0 (omega arith);
  })
  | inr other ↦ inr (record { quoted = one_byte other.1 nothing; piece = rw other.0 refl; count = rw other.0 refl })
]
text-end (b ∷ (c ∷ bs)) n =
    let two = text-end bs (n + 2) in
    let one = text-end (c ∷ bs) (n + 1) in
    elim (eqb_tells b 34) [
      | inr other ↦ rw other.0 (byte-more b (c ∷ bs) n (inside_text (c ∷ bs) (n + 1)) other.1 one)
      | inl quote ↦ elim (eqb_tells c 34) [
        | inl again ↦ rw (quote.1, again.1) (quotes-more bs n (inside_text bs (n + 2)) two)
        | inr other ↦ inl (record {
          inside = [];
          after = c ∷ bs;
          is = ap (λ d. d ∷ (c ∷ bs)) (sym quote.1);
          quoted = nothing;
          piece = rw (quote.0, other.0) refl;
          count = rw (quote.0, other.0) (omega arith);
        })
      ]
    ]

pub text-found : (xs : List ℕ) → Found (34 ∷ xs) (inside_text xs 1)
text-found xs = elim (text-end xs 1) [
  | inl e ↦ record {
    bytes = 34 ∷ (e.inside ++ 34 ∷ []);
    after = e.after;
    is = ap (λ ys. 34 ∷ ys) (append_assoc e.inside (34 ∷ []) e.after ∙ e.is);
    count = omega (arith, length-append e.inside (34 ∷ []), e.count);
    fits = rw e.piece (quoted_text e.inside e.quoted);
  }
  | inr s ↦ record {
    bytes = 34 ∷ xs;
    after = [];
    is = append-nil (34 ∷ xs);
    count = omega (arith, s.count);
    fits = rw s.piece (open_text s.quoted);
  }
]

-- a comment ends behind these bytes
record CommentEnds (xs : List ℕ) (n : ℕ) (found : Piece × ℕ) : Type 0 where
  inside : List ℕ
  after : List ℕ
  is : inside ++ 42 ∷ (47 ∷ after) ≡ xs
  no_end : HasNoEnd (inside ++ 42 ∷ [])
  piece : found.0 ≡ Piece.Comment
  count : found.1 ≡ n + length inside + 2

-- a comment goes on to the end of the list
record CommentStays (xs : List ℕ) (n : ℕ) (found : Piece × ℕ) : Type 0 where
  no_end : HasNoEnd xs
  piece : found.0 ≡ Piece.OpenComment
  count : found.1 ≡ n + length xs

HasNoEnd-nil : HasNoEnd []
HasNoEnd-nil [] after e = cc
HasNoEnd-nil (b ∷ before) after e = cc

HasNoEnd-star : HasNoEnd (42 ∷ [])
HasNoEnd-star [] after e = cc
HasNoEnd-star (b ∷ []) after e = cc
HasNoEnd-star (b ∷ (c ∷ before)) after e = cc

-- one byte more, where no `*/` begins
HasNoEnd-cons : (b : ℕ) (bs : List ℕ) → ((b == 42) && (slice_index bs 0 == 47)) ≡ false → HasNoEnd bs → HasNoEnd (b ∷ bs)
HasNoEnd-cons b bs off h [] after e =
    let star : b ≡ 42 = cc in
    let slash : bs ≡ 47 ∷ after = cc in
    let now : ((42 == 42) && (slice_index (47 ∷ after) 0 == 47)) ≡ false = rw (star, slash) at off in
    cc
HasNoEnd-cons b bs off h (c ∷ before) after e = let on : bs ≡ before ++ 42 ∷ (47 ∷ after) = cc in h before after on

-- what a list with a `*` at its end begins with
same-first : (xs after : List ℕ) → slice_index (xs ++ 42 ∷ []) 0 ≡ slice_index (xs ++ 42 ∷ (47 ∷ after)) 0
same-first [] after = refl
same-first (b ∷ xs) after = refl

comment-more : (b : ℕ) (xs : List ℕ) (n : ℕ) (found : Piece × ℕ) → ((b == 42) && (slice_index xs 0 == 47)) ≡ false
    → CommentEnds xs (n + 1) found ⊎ CommentStays xs (n + 1) found → CommentEnds (b ∷ xs) n found ⊎ CommentStays (b ∷ xs) n found
comment-more b xs n found off (inl e) =
    let begins : slice_index (e.inside ++ 42 ∷ []) 0 ≡ slice_index xs 0 = same-first e.inside e.after ∙ ap (λ ys. slice_index ys 0) e.is in
    inl (record {
      inside = b ∷ e.inside;
      after = e.after;
      is = ap (λ ys. b ∷ ys) e.is;
      no_end = HasNoEnd-cons b (e.inside ++ 42 ∷ []) (rw begins off) e.no_end;
      piece = e.piece;
      count = omega (arith, e.count);
    })
comment-more b xs n found off (inr s) = inr (record { no_end = HasNoEnd-cons b xs off s.no_end; piece = s.piece; count = omega (arith, s.count) })

comment-end : (xs : List ℕ) (n : ℕ) → CommentEnds xs n (inside_comment xs n) ⊎ CommentStays xs n (inside_comment xs n)
comment-end [] n = inr (record { no_end = HasNoEnd-nil; piece = refl; count = omega arith })
comment-end (b ∷ []) n =
    let one = comment-end [] (n + 1) in
    let off : ((b == 42) && false) ≡ false = elim (b == 42) as (λ t. (t && false) ≡ false) [ true ↦ refl | false ↦ refl ] in
    rw off (comment-more b [] n (inside_comment [] (n + 1)) off one)
comment-end (b ∷ (c ∷ bs)) n =
    let one = comment-end (c ∷ bs) (n + 1) in
    elim (eqb_tells b 42) [
      | inr other ↦ rw other.0 (comment-more b (c ∷ bs) n (inside_comment (c ∷ bs) (n + 1)) (rw other.0 refl) one)
      | inl star ↦ elim (eqb_tells c 47) [
        | inr other ↦ rw (star.0, other.0) (comment-more b (c ∷ bs) n (inside_comment (c ∷ bs) (n + 1)) (rw (star.0, other.0) refl) one)
        | inl slash ↦ inl (record {
          inside = [];
          after = bs;
          is = rw (star.1, slash.1) refl;
          no_end = HasNoEnd-star;
          piece = rw (star.0, slash.0) refl;
          count = rw (star.0, slash.0) (omega arith);
        })
      ]
    ]

pub comment-found : (xs : List ℕ) → Found (47 ∷ (42 ∷ xs)) (inside_comment xs 2)
comment-found xs = elim (comment-end xs 2) [
  | inl e ↦ record {
    bytes = 47 ∷ (42 ∷ (e.inside ++ 42 ∷ (47 ∷ [])));
    after = e.after;
    is = ap (λ ys. 47 ∷ (42 ∷ ys)) (append_assoc e.inside (42 ∷ (47 ∷ [])) e.after ∙ e.is);
    count = omega (arith, length-append e.inside (42 ∷ (47 ∷ [])), e.count);
    fits = rw e.piece (block_comment e.inside e.no_end);
  }
  | inr s ↦ record {
    bytes = 47 ∷ (42 ∷ xs);
    after = [];
    is = append-nil (47 ∷ (42 ∷ xs));
    count = omega (arith, s.count);
    fits = rw s.piece (open_comment s.no_end);
  }
]

-- ---- which end a text or a comment has

-- the comment that ends
pub closed-comment-is : (bs after : List ℕ) (n : ℕ) → Piece.Comment ≡ (inside_comment (bs ++ 42 ∷ (47 ∷ after)) n).0
closed-comment-is bs after n = elim (comment-end (bs ++ 42 ∷ (47 ∷ after)) n) [
  | inl e ↦ sym e.piece
  | inr s ↦ absurd (s.no_end bs after refl)
]

-- the comment that goes on to the end
pub open-comment-is : (bs : List ℕ) (n : ℕ) → HasNoEnd bs → Piece.OpenComment ≡ (inside_comment bs n).0
open-comment-is bs n h = elim (comment-end bs n) [
  | inl e ↦ absurd (h e.inside e.after (sym e.is))
  | inr s ↦ sym s.piece
]

Quoted-tail : (b : ℕ) (xs : List ℕ) → b ≢ 34 → Quoted (b ∷ xs) → Quoted xs
Quoted-tail b xs ne (one_byte other q) = q
Quoted-tail b xs ne (two_quotes q) = absurd (ne refl)

Quoted-pair : (xs : List ℕ) → Quoted (34 ∷ (34 ∷ xs)) → Quoted xs
Quoted-pair xs (one_byte other q) = absurd (other refl)
Quoted-pair xs (two_quotes q) = q

Quoted-lone : Quoted (34 ∷ []) → ⊥
Quoted-lone (one_byte other q) = other refl

-- behind what is quoted no lone quote is
no-lone-quote : {bs : List ℕ} → Quoted bs → Quoted (bs ++ 34 ∷ []) → ⊥
no-lone-quote nothing q = Quoted-lone q
no-lone-quote (one_byte {b = b} {bs = bs} ne r) q = no-lone-quote r (Quoted-tail b (bs ++ 34 ∷ []) ne q)
no-lone-quote (two_quotes {bs = bs} r) q = no-lone-quote r (Quoted-pair (bs ++ 34 ∷ []) q)

no-lone-behind : {bs : List ℕ} (after : List ℕ) → Quoted bs → length after ≡ 0 → Quoted (bs ++ 34 ∷ after) → ⊥
no-lone-behind [] r h q = no-lone-quote r q
no-lone-behind (b ∷ after) r h q = cc

-- the text that ends
pub closed-text-is : (bs after : List ℕ) (n : ℕ) → Quoted bs → n + length bs + 1 ≡ (inside_text (bs ++ 34 ∷ after) n).1 → Piece.Text ≡ (inside_text (bs ++ 34 ∷ after) n).0
closed-text-is bs after n q count = elim (text-end (bs ++ 34 ∷ after) n) [
  | inl e ↦ sym e.piece
  | inr s ↦ absurd (no-lone-behind after q (omega (arith, s.count, count, length-append bs (34 ∷ after))) s.quoted)
]

-- the text that goes on to the end
pub open-text-is : (bs : List ℕ) (n : ℕ) → Quoted bs → n + length bs ≡ (inside_text bs n).1 → Piece.OpenText ≡ (inside_text bs n).0
open-text-is bs n q count = elim (text-end bs n) [
  | inl e ↦ absurd (no-lone-behind e.after e.quoted (omega (arith, e.count, count, length-append e.inside (34 ∷ e.after), ap length e.is)) (subst Quoted (sym e.is) q))
  | inr s ↦ sym s.piece
]

-- Numbers: the code's reading of one, against its forms.
use Rattle.std.proofs.Common.{◌≡◌, ◌≢◌, ℕ, ◌+◌, ◌<◌, ◌≤◌, ◌⊎◌, true, false, if◌then◌else◌, ◌==◌, List, [], ◌∷◌, ◌++◌, length, drop, slice_index, refl, ap, sym, ◌∙◌, subst, arith, inl, inr, append_assoc, length-append, append-nil}
use Rattle.std.specs.List.{prefix_len}
use Rattle.std.proofs.lemmas.Bool.Decides.{nat_tests, eqb_tells}
use Rattle.std.proofs.lemmas.List.{drop_at}
use Rattle.ttcn_syntax.specs.declared.piece.Piece.{Piece}
use Rattle.ttcn_syntax.specs.declared.piece.Piece.TheVariants.{Integer, Float}
use Rattle.ttcn_syntax.specs.Characters.{is_digit}
use Rattle.ttcn_syntax.specs.Cut.{IsDigits, IsExponent, without_sign, with_sign, Fits, whole_number, fraction, scaled_fraction, scaled_number}
use Rattle.ttcn_syntax.specs.Front.{number_of, fraction_length, exponent_length}
use Rattle.ttcn_syntax.proofs.Found.{Found}
use Rattle.ttcn_syntax.proofs.Runs.{run-reaches, run-ends, passes-head, Run, run_of}

-- where the number ends, given how many digits it begins with
abbrev pub middle_of : List ℕ → ℕ
middle_of xs = prefix_len is_digit xs + fraction_length (drop (prefix_len is_digit xs) xs)

abbrev pub end_of : List ℕ → ℕ
end_of xs = middle_of xs + exponent_length (drop (middle_of xs) xs)

chosen-end : (e w : ℕ) → (if◌then◌else◌ {A = Piece × ℕ} (e == w) (Integer, w) (Float, e)).1 ≡ e
chosen-end e w = elim (eqb_tells e w) [ inl h ↦ rw h.0 (sym h.1) | inr h ↦ rw h.0 refl ]

pub number-ends : (xs : List ℕ) → (number_of xs).1 ≡ end_of xs
number-ends xs = chosen-end (end_of xs) (prefix_len is_digit xs)

-- ---- the forms lie within what the code reads

-- a fraction with more behind it
fraction-reaches : (es rest : List ℕ) → IsDigits es → length es + 1 ≤ fraction_length (46 ∷ (es ++ rest))
fraction-reaches es rest d =
    let r = run-reaches is_digit es rest d.each in
    let some = d.some in
    let long : prefix_len is_digit (es ++ rest) ≢ 0 = omega arith in
    let off : (prefix_len is_digit (es ++ rest) == 0) ≡ false = grind (arith, nat_tests) in
    rw off (omega arith)

-- a fraction before a byte that is no digit
fraction-is : (es : List ℕ) (c : ℕ) (rest : List ℕ) → IsDigits es → is_digit c ≡ false → fraction_length (46 ∷ (es ++ c ∷ rest)) ≡ length es + 1
fraction-is es c rest d stops =
    let r = run-ends is_digit es c rest d.each stops in
    let some = d.some in
    let off : (length es == 0) ≡ false = grind (arith, nat_tests) in
    rw (r, off) refl

-- an exponent with more behind it
exponent-reaches : {xs : List ℕ} (rest : List ℕ) → IsExponent xs → length xs ≤ exponent_length (xs ++ rest)
exponent-reaches rest (without_sign {ds = []} d) = absurd (let h = d.some in omega arith)
exponent-reaches rest (without_sign {ds = e ∷ es} d) =
    let r = run-reaches is_digit (e ∷ es) rest d.each in
    let digit = passes-head is_digit e es d.each in
    let no_sign : (e == 45) ≡ false = grind (arith, nat_tests) in
    let off : (prefix_len is_digit (e ∷ (es ++ rest)) == 0) ≡ false = grind (arith, nat_tests) in
    rw (no_sign, off) (omega (arith, r))
exponent-reaches rest (with_sign {ds = es} d) =
    let r = run-reaches is_digit es rest d.each in
    let some = d.some in
    let off : (prefix_len is_digit (es ++ rest) == 0) ≡ false = grind (arith, nat_tests) in
    rw off (omega (arith, r))

-- digits, and then a byte that is none: the number goes on from there
digits-then : (ds : List ℕ) (c : ℕ) (rest : List ℕ) → IsDigits ds → is_digit c ≡ false → middle_of (ds ++ c ∷ rest) ≡ length ds + fraction_length (c ∷ rest)
digits-then ds c rest d stops =
    let r = run-ends is_digit ds c rest d.each stops in
    let back : drop (length ds) (ds ++ c ∷ rest) ≡ c ∷ rest = drop_at ds (c ∷ rest) (length ds) refl in
    rw (r, back) refl

pub whole-reaches : (ds after : List ℕ) → IsDigits ds → length ds ≤ end_of (ds ++ after)
whole-reaches ds after d = omega (arith, run-reaches is_digit ds after d.each)

pub fraction-form-reaches : (ds es after : List ℕ) → IsDigits ds → IsDigits es → length (ds ++ 46 ∷ es) ≤ end_of ((ds ++ 46 ∷ es) ++ after)
fraction-form-reaches ds es after d e =
    let m = digits-then ds 46 (es ++ after) d refl in
    let f = fraction-reaches es after e in
    let same : (ds ++ 46 ∷ es) ++ after ≡ ds ++ 46 ∷ (es ++ after) = append_assoc ds (46 ∷ es) after in
    let len = length-append ds (46 ∷ es) in
    rw same (omega (arith, m, f, len))

-- an exponent behind what the number has so far
exponent-form-reaches : (xs front es after : List ℕ) → xs ≡ front ++ (es ++ after) → middle_of xs ≡ length front → IsExponent es → length front + length es ≤ end_of xs
exponent-form-reaches xs front es after is m x =
    let back : drop (length front) (front ++ (es ++ after)) ≡ es ++ after = drop_at front (es ++ after) (length front) refl in
    let rest : drop (middle_of xs) xs ≡ es ++ after = rw (m, is, back) refl in
    let reach = exponent-reaches after x in
    omega (arith, m, rw (← rest) at reach)

-- an exponent begins with a byte that is no digit
pub exponent-begins : {xs : List ℕ} → IsExponent xs → (rest : List ℕ) × (xs ≡ 69 ∷ rest)
exponent-begins (without_sign {ds = ds} d) = (ds, refl)
exponent-begins (with_sign {ds = ds} d) = (45 ∷ ds, refl)

pub scaled-reaches : (ds xs after : List ℕ) → IsDigits ds → IsExponent xs → length (ds ++ xs) ≤ end_of ((ds ++ xs) ++ after)
scaled-reaches ds xs after d x =
    let b = exponent-begins x in
    let same : (ds ++ xs) ++ after ≡ ds ++ (xs ++ after) = append_assoc ds xs after in
    let m : middle_of (ds ++ (xs ++ after)) ≡ length ds + fraction_length (xs ++ after) = rw b.1 (digits-then ds 69 (b.0 ++ after) d refl) in
    let f : fraction_length (xs ++ after) ≡ 0 = rw b.1 refl in
    let mid : middle_of (ds ++ (xs ++ after)) ≡ length ds = rw (m, f) (omega arith) in
    let reach = exponent-form-reaches (ds ++ (xs ++ after)) ds xs after refl mid x in
    let len = length-append ds xs in
    rw same (omega (arith, reach, len))

pub scaled-fraction-reaches : (ds es xs after : List ℕ) → IsDigits ds → IsDigits es → IsExponent xs → length (ds ++ 46 ∷ (es ++ xs)) ≤ end_of ((ds ++ 46 ∷ (es ++ xs)) ++ after)
scaled-fraction-reaches ds es xs after d e x =
    let b = exponent-begins x in
    let one : (ds ++ 46 ∷ (es ++ xs)) ++ after ≡ ds ++ 46 ∷ ((es ++ xs) ++ after) = append_assoc ds (46 ∷ (es ++ xs)) after in
    let two : (es ++ xs) ++ after ≡ es ++ (xs ++ after) = append_assoc es xs after in
    let m : middle_of (ds ++ 46 ∷ (es ++ (xs ++ after))) ≡ length ds + fraction_length (46 ∷ (es ++ (xs ++ after))) = digits-then ds 46 (es ++ (xs ++ after)) d refl in
    let f : fraction_length (46 ∷ (es ++ (xs ++ after))) ≡ length es + 1 = rw b.1 (fraction-is es 69 (b.0 ++ after) e refl) in
    let front : ds ++ 46 ∷ (es ++ (xs ++ after)) ≡ (ds ++ 46 ∷ es) ++ (xs ++ after) = sym (append_assoc ds (46 ∷ es) (xs ++ after)) in
    let len = length-append ds (46 ∷ es) in
    let mid : middle_of (ds ++ 46 ∷ (es ++ (xs ++ after))) ≡ length (ds ++ 46 ∷ es) = omega (arith, m, f, len) in
    let reach = exponent-form-reaches (ds ++ 46 ∷ (es ++ (xs ++ after))) (ds ++ 46 ∷ es) xs after front mid x in
    let all = length-append ds (46 ∷ (es ++ xs)) in
    let tail = length-append es xs in
    rw (one, two) (omega (arith, reach, len, all, tail))

-- ---- what the code reads has one of the forms

-- `.` and digits, or nothing
record Fraction (xs : List ℕ) : Type 0 where
  bytes : List ℕ
  after : List ℕ
  is : bytes ++ after ≡ xs
  count : length bytes ≡ fraction_length xs
  form : (bytes ≡ []) ⊎ ((es : List ℕ) × (bytes ≡ 46 ∷ es) × IsDigits es)

no-fraction : (xs : List ℕ) → fraction_length xs ≡ 0 → Fraction xs
no-fraction xs h = record { bytes = []; after = xs; is = refl; count = sym h; form = inl refl }

fraction-of : (xs : List ℕ) → Fraction xs
fraction-of [] = no-fraction [] refl
fraction-of (b ∷ xs) = elim (eqb_tells b 46) [
  | inr other ↦ no-fraction (b ∷ xs) (rw other.0 refl)
  | inl dot ↦
      let r : Run is_digit xs = run_of is_digit xs in
      elim (eqb_tells (prefix_len is_digit xs) 0) [
        | inl none ↦ no-fraction (b ∷ xs) (rw (dot.0, none.0) refl)
        | inr some ↦ record {
          bytes = b ∷ r.bytes;
          after = r.after;
          is = ap (λ ys. b ∷ ys) r.is;
          count = rw (dot.0, some.0) (omega (arith, r.count));
          form = inr (r.bytes, ap (λ c. c ∷ r.bytes) dot.1, record { some = omega (arith, r.count); each = r.each });
        }
      ]
]

-- an exponent, or nothing
record Exponent (xs : List ℕ) : Type 0 where
  bytes : List ℕ
  after : List ℕ
  is : bytes ++ after ≡ xs
  count : length bytes ≡ exponent_length xs
  form : (bytes ≡ []) ⊎ IsExponent bytes

no-exponent : (xs : List ℕ) → exponent_length xs ≡ 0 → Exponent xs
no-exponent xs h = record { bytes = []; after = xs; is = refl; count = sym h; form = inl refl }

-- behind `E` with no sign
unsigned-exponent : (xs : List ℕ) → (slice_index xs 0 == 45) ≡ false → Exponent (69 ∷ xs)
unsigned-exponent xs h =
    let r : Run is_digit xs = run_of is_digit xs in
    elim (eqb_tells (prefix_len is_digit xs) 0) [
      | inl none ↦ no-exponent (69 ∷ xs) (rw (h, none.0) refl)
      | inr some ↦ record {
        bytes = 69 ∷ r.bytes;
        after = r.after;
        is = ap (λ ys. 69 ∷ ys) r.is;
        count = rw (h, some.0) (omega (arith, r.count));
        form = inr (without_sign (record { some = omega (arith, r.count); each = r.each }));
      }
    ]

-- behind `E-`
signed-exponent : (xs : List ℕ) → Exponent (69 ∷ (45 ∷ xs))
signed-exponent xs =
    let r : Run is_digit xs = run_of is_digit xs in
    elim (eqb_tells (prefix_len is_digit xs) 0) [
      | inl none ↦ no-exponent (69 ∷ (45 ∷ xs)) (rw none.0 refl)
      | inr some ↦ record {
        bytes = 69 ∷ (45 ∷ r.bytes);
        after = r.after;
        is = ap (λ ys. 69 ∷ (45 ∷ ys)) r.is;
        count = rw some.0 (omega (arith, r.count));
        form = inr (with_sign (record { some = omega (arith, r.count); each = r.each }));
      }
    ]

behind-e : (xs : List ℕ) → Exponent (69 ∷ xs)
behind-e [] = unsigned-exponent [] refl
behind-e (c ∷ xs) = elim (eqb_tells c 45) [
  | inl sign ↦ subst (λ d. Exponent (69 ∷ (d ∷ xs))) (sym sign.1) (signed-exponent xs)
  | inr other ↦ unsigned-exponent (c ∷ xs) other.0
]

exponent-of : (xs : List ℕ) → Exponent xs
exponent-of [] = no-exponent [] refl
exponent-of (b ∷ xs) = elim (eqb_tells b 69) [
  | inr other ↦ no-exponent (b ∷ xs) (rw other.0 refl)
  | inl is ↦ subst (λ d. Exponent (d ∷ xs)) (sym is.1) (behind-e xs)
]

-- the piece that a number is
pub chosen-is : (e w : ℕ) → e ≡ w → (if◌then◌else◌ {A = Piece × ℕ} (e == w) (Integer, w) (Float, e)).0 ≡ Integer
chosen-is e w h = let on : (e == w) ≡ true = grind (arith, nat_tests) in rw on refl

pub chosen-float : (e w : ℕ) → w < e → (if◌then◌else◌ {A = Piece × ℕ} (e == w) (Integer, w) (Float, e)).0 ≡ Float
chosen-float e w h = let off : (e == w) ≡ false = grind (arith, nat_tests) in rw off refl

number-fits : (ds fs es after : List ℕ) (p : Piece) → IsDigits ds
    → (fs ≡ []) ⊎ ((gs : List ℕ) × (fs ≡ 46 ∷ gs) × IsDigits gs)
    → (es ≡ []) ⊎ IsExponent es
    → (length fs + length es ≡ 0 → p ≡ Integer)
    → (0 < length fs + length es → p ≡ Float)
    → Fits (ds ++ (fs ++ es)) after p
number-fits ds fs es after p d (inl f) (inl e) whole part =
    let is : p ≡ Integer = whole (rw (f, e) refl) in
    rw (f, e, append-nil ds, is) (whole_number d)
number-fits ds fs es after p d (inl f) (inr x) whole part =
    let b = exponent-begins x in
    let long : 0 < length fs + length es = rw (f, b.1) (omega arith) in
    let is : p ≡ Float = part long in
    rw (f, is) (scaled_number ds es d x)
number-fits ds fs es after p d (inr (gs, f, g)) (inl e) whole part =
    let long : 0 < length fs + length es = rw (f, e) (omega arith) in
    let is : p ≡ Float = part long in
    rw (f, e, append-nil gs, is) (fraction ds gs d g)
number-fits ds fs es after p d (inr (gs, f, g)) (inr x) whole part =
    let long : 0 < length fs + length es = rw f (omega arith) in
    let is : p ≡ Float = part long in
    rw (f, is) (scaled_fraction ds gs es d g x)

-- what lies behind the first part of a list
drop-back : (front back xs : List ℕ) (n : ℕ) → front ++ back ≡ xs → n ≡ length front → drop n xs ≡ back
drop-back front back xs n is count = rw (← is) (drop_at front back n (sym count))

whole-found : (xs : List ℕ) → 0 < prefix_len is_digit xs → Found xs (number_of xs)
whole-found xs some =
    let r : Run is_digit xs = run_of is_digit xs in
    let f : Fraction (drop (prefix_len is_digit xs) xs) = fraction-of (drop (prefix_len is_digit xs) xs) in
    let e : Exponent (drop (middle_of xs) xs) = exponent-of (drop (middle_of xs) xs) in
    let behind : drop (prefix_len is_digit xs) xs ≡ r.after = drop-back r.bytes r.after xs (prefix_len is_digit xs) r.is (sym r.count) in
    let joined : (r.bytes ++ f.bytes) ++ f.after ≡ xs = append_assoc r.bytes f.bytes f.after ∙ ap (λ ys. r.bytes ++ ys) (f.is ∙ behind) ∙ r.is in
    let long : middle_of xs ≡ length (r.bytes ++ f.bytes) = omega (arith, length-append r.bytes f.bytes, r.count, f.count) in
    let after_fraction : drop (middle_of xs) xs ≡ f.after = drop-back (r.bytes ++ f.bytes) f.after xs (middle_of xs) joined long in
    let ends = number-ends xs in
    let ds : IsDigits r.bytes = record { some = omega (arith, r.count); each = r.each } in
    record {
      bytes = r.bytes ++ (f.bytes ++ e.bytes);
      after = e.after;
      is = append_assoc r.bytes (f.bytes ++ e.bytes) e.after
          ∙ ap (λ ys. r.bytes ++ ys) (append_assoc f.bytes e.bytes e.after)
          ∙ ap (λ ys. r.bytes ++ (f.bytes ++ ys)) (e.is ∙ after_fraction)
          ∙ sym (append_assoc r.bytes f.bytes f.after)
          ∙ joined;
      count = omega (arith, ends, length-append r.bytes (f.bytes ++ e.bytes), length-append f.bytes e.bytes, r.count, f.count, e.count);
      fits = number-fits r.bytes f.bytes e.bytes e.after (number_of xs).0 ds f.form e.form
          (λ h. chosen-is (end_of xs) (prefix_len is_digit xs) (omega (arith, h, f.count, e.count)))
          (λ h. chosen-float (end_of xs) (prefix_len is_digit xs) (omega (arith, h, f.count, e.count)));
    }

pub number-found : (b : ℕ) (bs : List ℕ) → is_digit b ≡ true → Found (b ∷ bs) (number_of (b ∷ bs))
number-found b bs digit = whole-found (b ∷ bs) (rw digit (omega arith))

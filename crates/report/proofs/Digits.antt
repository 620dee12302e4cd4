-- Numbers in labels.
use Rattle.std.proofs.Common.{◌≡◌, ◌≢◌, ℕ, ◌<◌, ◌≤◌, ◌^◌, eqb, false, List, [], ◌∷◌, length, get_or, sym, refl, ap, ◌∙◌, subst, arith, Result, Ok, Err, Option, ◌⊎◌, inl, inr, zero, suc}
use Rattle.std.proofs.lemmas.Bool.Decides.{nat_tests}
use Rattle.std.proofs.lemmas.Fmt.{decimal-digits_value, decimal_digit, decimal_injective, decimal_nonempty, digits_decimal, first_decimal, parse-decimal, IsAscii-decimal}
use Rattle.std.proofs.lemmas.Str.Parse.{IsNumeralModel, digit_from_value, numerals_by_value, parse_plain, tells_digits, not_in_digits}
use Rattle.std.proofs.lemmas.Str.{IsUtf8-from_ascii}
use Rattle.std.specs.Fmt.{decimal}
use Rattle.std.specs.List.{list_any}
use Rattle.std.specs.Option.{MatchOption}
use Rattle.std.specs.Result.{OkIff, result_ok}
use Rattle.std.specs.Str.{IsUtf8}
use Rattle.std.specs.Str.Parse.{AllDigits, ParsesUnsigned, digits_value}
use Rattle.report.specs.Runs.{IsNumber, IsSmall}
use Rattle.ttcn_syntax.specs.Characters.{is_blank}
use Rattle.report.specs.internal.Reader.{IsNoNumber, lacks}

own : IsNumeralModel (AllDigits 10) (digits_value 10)
own = numerals_by_value (AllDigits 10) tells_digits

wide : (n : ℕ) → IsSmall n → n < 2 ^ 64
wide n small = omega arith

ok-parts : {T E P : Type 0} (r : Result T E) (v n : T) → OkIff r P v → r ≡ Ok n → P × (v ≡ n)
ok-parts (Ok x) v n h is = (h.0, sym h.1 ∙ cc)
ok-parts (Err e) v n h is = absurd (cc)

-- what `parse` reads, where no sign stands first and no zero before other digits
pub number-parsed : {E : Type 0} (bs : List ℕ) (n : ℕ) (r : Result ℕ E) → ParsesUnsigned 32 10 bs r → r ≡ Ok n
    → get_or bs 0 0 ≢ 43 → (get_or bs 0 0 ≡ 48 → length bs ≡ 1) → IsNumber bs n
number-parsed bs n r parsed is unsigned short =
    let read = ok-parts r (digits_value 10 bs) n (parse_plain own 32 bs r parsed unsigned) is in
    let small : IsSmall n = subst (λ v. v < 2 ^ 32) read.1 read.0.2 in
    (small, sym (decimal-digits_value own bs read.0.0 read.0.1 short (wide _ read.0.2)) ∙ ap decimal read.1)

-- where `parse` refuses the text, it is no number's
pub number-refused : {E : Type 0} (bs : List ℕ) (r : Result ℕ E) → ParsesUnsigned 32 10 bs r → ((n : ℕ) → r ≢ Ok n) → IsNoNumber bs
number-refused bs r parsed refused = λ n small is. refused n (parse-decimal 32 n bs r small (wide n small) is parsed)

pub no_number_from_utf8 : (bs : List ℕ) → ¬ IsUtf8 bs → IsNoNumber bs
no_number_from_utf8 bs other = λ n small is. other (subst IsUtf8 (sym is) (IsUtf8-from_ascii (decimal n) (IsAscii-decimal n (wide n small))))

pub no-number-empty : (bs : List ℕ) → length bs ≡ 0 → IsNoNumber bs
no-number-empty bs empty = λ n small is.
    let some : 0 < length (decimal n) = decimal_nonempty n (wide n small) in
    let same : length bs ≡ length (decimal n) = ap length is in
    absurd (omega arith)

pub no-number-plus : (bs : List ℕ) → get_or bs 0 0 ≡ 43 → 0 < length bs → IsNoNumber bs
no-number-plus bs plus some = λ n small is.
    not_in_digits own bs 43 (subst (AllDigits 10) (sym is) (digits_decimal own n (wide n small))) (λ r. absurd (omega (arith, r.0))) 0 some plus

is-zero : (n : ℕ) → (n ≡ 0) ⊎ (0 < n)
is-zero zero = inl refl
is-zero (suc n) = inr (omega arith)

zero-alone : (n : ℕ) → IsSmall n → get_or (decimal n) 0 0 ≡ 48 → length (decimal n) ≡ 1
zero-alone n small first =
    elim (is-zero n) [ inl z ↦ subst (λ k. length (decimal k) ≡ 1) (sym z) (ap length (decimal_digit 0 (omega arith))) | inr p ↦ absurd (let above : 48 < get_or (decimal n) 0 0 = first_decimal n p (wide n small) in omega arith) ]

pub no-number-zero : (bs : List ℕ) → get_or bs 0 0 ≡ 48 → 1 < length bs → IsNoNumber bs
no-number-zero bs first more = λ n small is.
    let one : length (decimal n) ≡ 1 = zero-alone n small (ap (λ t. get_or t 0 0) (sym is) ∙ first) in
    let same : length bs ≡ length (decimal n) = ap length is in
    absurd (omega arith)

pub number-same : (bs : List ℕ) (m n : ℕ) → IsNumber bs m → IsNumber bs n → m ≡ n
number-same bs m n one other = decimal_injective m n (wide m one.0) (wide n other.0) (sym one.1 ∙ other.1)

digits-lack : (mark : ℕ) → mark < 48 → (ds : List ℕ) → AllDigits 10 ds → lacks mark ds
digits-lack mark low [] h = refl
digits-lack mark low (d ∷ ds) h =
    let digit = digit_from_value d h.0 in
    let other : eqb d mark ≡ false = grind (arith, nat_tests, digit.0) in
    rw other (digits-lack mark low ds h.1)

-- a number has neither a point nor a slash
pub decimal-lacks : (mark n : ℕ) → mark < 48 → IsSmall n → lacks mark (decimal n)
decimal-lacks mark n low small = digits-lack mark low (decimal n) (digits_decimal own n (wide n small))

not-ok : {T E : Type 0} (r : Result T E) (e : E) (n : T) → r ≡ Err e → r ≡ Ok n → ⊥
not-ok r e n refused given = cc

digit-no-blank : (d : ℕ) → 48 ≤ d → d ≤ 57 → is_blank d ≡ false
digit-no-blank d low high = grind (arith, nat_tests)

digits-no-blank : (ds : List ℕ) → AllDigits 10 ds → list_any is_blank ds ≡ false
digits-no-blank [] h = refl
digits-no-blank (d ∷ ds) h =
    let digit = digit_from_value d h.0 in
    let other : is_blank d ≡ false = digit-no-blank d digit.0 digit.1 in
    rw other (digits-no-blank ds h.1)

pub decimal-no-blank : (n : ℕ) → IsSmall n → list_any is_blank (decimal n) ≡ false
decimal-no-blank n small = digits-no-blank (decimal n) (digits_decimal own n (wide n small))

-- a zero that stands alone
pub zero-number : (bs others : List ℕ) → bs ≡ 48 ∷ others → length others ≡ 0 → IsNumber bs 0
zero-number bs [] is alone = (omega arith, is ∙ sym (decimal_digit 0 (omega arith)))
zero-number bs (other ∷ others) is alone = absurd (omega arith)

pub no-number-zero-first : (bs others : List ℕ) → bs ≡ 48 ∷ others → length others ≢ 0 → IsNoNumber bs
no-number-zero-first bs [] is more = absurd (more refl)
no-number-zero-first bs (other ∷ others) is more =
    no-number-zero bs (ap (λ t. get_or t 0 0) is) (let long : length bs ≡ length (48 ∷ other ∷ others) = ap length is in omega arith)

pub no-number-plus-first : (bs others : List ℕ) → bs ≡ 43 ∷ others → IsNoNumber bs
no-number-plus-first bs others is = no-number-plus bs (ap (λ t. get_or t 0 0) is) (let long : length bs ≡ length (43 ∷ others) = ap length is in omega arith)

-- what `number_of` answers, by what `parse` gives
number-read : {E : Type 0} (bs : List ℕ) (r : Result ℕ E) (o : Option ℕ) → ParsesUnsigned 32 10 bs r → o ≡ result_ok r
    → get_or bs 0 0 ≢ 43 → get_or bs 0 0 ≢ 48 → MatchOption o (IsNoNumber bs) (IsNumber bs)
number-read {E} bs (Ok n) o parsed is unsigned no-zero =
    let P : Option ℕ → Type 0 = λ answer. MatchOption answer (IsNoNumber bs) (IsNumber bs) in
    subst P (sym is) (number-parsed {E = E} bs n (Ok n) parsed refl unsigned (λ first. absurd (no-zero first)))
number-read {E} bs (Err e) o parsed is unsigned no-zero =
    let P : Option ℕ → Type 0 = λ answer. MatchOption answer (IsNoNumber bs) (IsNumber bs) in
    subst P (sym is) (number-refused bs (Err e) parsed (λ n same. not-ok (Err e) e n refl same))

pub number-read-first : {E : Type 0} (bs text others : List ℕ) (first : ℕ) (r : Result ℕ E) (o : Option ℕ) → bs ≡ first ∷ others → text ≡ bs
    → ParsesUnsigned 32 10 text r → o ≡ result_ok r → first ≢ 43 → first ≢ 48 → MatchOption o (IsNoNumber bs) (IsNumber bs)
number-read-first bs text others first r o is same parsed read unsigned no-zero =
    let begins : get_or bs 0 0 ≡ first = ap (λ t. get_or t 0 0) is in
    number-read bs r o (subst (λ t. ParsesUnsigned 32 10 t r) same parsed) read (λ e. unsigned (sym begins ∙ e)) (λ e. no-zero (sym begins ∙ e))

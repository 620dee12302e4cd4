-- What the getters of clap's matches read, by the rows.
use Rattle.std.proofs.Common.{◌≡◌, ◌∙◌, ◌≤◌, ◌||◌, ℕ, Bool, inl, inr, true, false, refl, sym, ap, subst, List, Option, Some, None, Result, Ok, Err, IsSome, is_some, codes, map, option_map}
use Rattle.std.specs.Option.{option_map_or}
use Rattle.std.specs.Borrow.{Bor}
use Rattle.std.specs.Str.{bytes_eq}
use Rattle.std.specs.Str.Parse.{ParsesUnsigned, digits_value, without_leading_plus}
use Rattle.std.proofs.lemmas.Slice.Eq.{bytes_eq-Decides}
use Rattle.clap.specs.Matches.{ReadsOne, first_value, matched_of, one_text, raw_values}
use Rattle.clap.specs.Values.{IsUnsignedIn, bool_text}
use Rattle.clap.specs.Walk.{Row, Text, first_of, rows_of}
use Rattle.clap.specs.declared.parser.matches.Found.{Found}
use Rattle.clap.proofs.WalkLemmas.{first_value-rows, one_text-rows, raw_values-rows}
use Rattle.ttcn_syntax.specs.declared.tree.statement.Verdict.{Verdict}
use Rattle.ttcnx_command_line.specs.Command.{AreTexts, IsFlag, IsFormat, IsLintFormat, IsNumber, IsNumberIfGiven, IsText, IsTextIfGiven, IsVerdictIfGiven, format_word, is_set, lint_format_word, verdict_word}
use Rattle.ttcnx_command_line.specs.declared.command.LintFormat.{LintFormat}
use Rattle.ttcnx_command_line.specs.declared.command.LintFormat.TheVariants as lint_format
use Rattle.ttcnx_command_line.specs.declared.command.Format.{Format}
use Rattle.ttcnx_command_line.specs.declared.command.Format.TheVariants as format
use Rattle.ttcnx_command_line.specs.internal.Given.{GivesFlag, GivesFormat, GivesLintFormat, GivesNumber, GivesText, GivesTexts, MayGiveNumber, MayGiveVerdict}

-- `get_str` has a text where the argument has one
pub text-there : (f : Found) (id : Text) (o : Option (Bor Text)) → option_map (λ s. s.now) o ≡ first_value f id → GivesText (rows_of f) id → IsSome o
text-there f id (Some s) got given = refl
text-there f id None got given =
    let rows = first_value-rows f id in
    let is = given.1 in
    cc

-- and a copy of that text is the argument's text
pub text-copied : (f : Found) (id : Text) (o : Option (Bor Text)) (s : Bor Text) (copy : Text) → option_map (λ x. x.now) o ≡ first_value f id → o ≡ Some s
    → copy ≡ s.now → IsText (rows_of f) id copy
text-copied f id o s copy got is same =
    let here : Some s.now ≡ first_value f id = ap (option_map (λ (x : Bor Text). x.now)) (sym is) ∙ got in
    sym (first_value-rows f id) ∙ sym here ∙ ap Some (sym same)

-- `get_str` has no text only where the argument has none
pub none-given : (f : Found) (id : Text) (o : Option (Bor Text)) → option_map (λ s. s.now) o ≡ first_value f id → o ≡ None → IsTextIfGiven (rows_of f) id None
none-given f id o got is = sym (first_value-rows f id) ∙ sym got ∙ ap (option_map (λ (x : Bor Text). x.now)) is

-- what a type of numbers reads of a numeral that fits
reads : {E : Type 0} (G : List ℕ → Result ℕ E → Type 0) (low high : ℕ) (t : Text) (o : Option ℕ) → ReadsOne G t o
    → ((r : Result ℕ E) → G t r → ParsesUnsigned 64 10 t r) → IsUnsignedIn low high t → o ≡ Some (digits_value 10 (without_leading_plus t))
reads G low high t (Some v) read only within = ap Some (only (Ok v) read).1
reads G low high t None read only within = absurd (only (Err read.0) read.1 (within.0, within.1))

-- `get_one` has a number where the argument has one
pub number-read : {E : Type 0} (G : List ℕ → Result ℕ E → Type 0) (f : Found) (id : Text) (low high : ℕ) (o : Option ℕ)
    → ((t : Text) → one_text f id ≡ Some t → ReadsOne G t o) → ((t : Text) (r : Result ℕ E) → G t r → ParsesUnsigned 64 10 t r)
    → GivesNumber (rows_of f) id low high → (n : ℕ) × (o ≡ Some n) × IsNumber (rows_of f) id n
number-read G f id low high o read only given =
    let text = one_text-rows f id ∙ given.1 in (
      digits_value 10 (without_leading_plus given.0),
      reads G low high given.0 o (read given.0 text) (only given.0) given.2,
      ap (option_map (λ t. digits_value 10 (without_leading_plus t))) given.1,
    )

-- and it is in the range of the argument
pub number-within : (matches : List Row) (id : Text) (low high n : ℕ) → GivesNumber matches id low high → IsNumber matches id n → (low ≤ n) × (n ≤ high)
number-within matches id low high n given is =
    let here : Some (digits_value 10 (without_leading_plus given.0)) ≡ Some n =
    sym (ap (option_map (λ t. digits_value 10 (without_leading_plus t))) given.1) ∙ is in
    let same : digits_value 10 (without_leading_plus given.0) ≡ n = cc in
    (subst (λ k. low ≤ k) same given.2.2, subst (λ k. k ≤ high) same given.2.3)

-- `get_flag` gives the flag's value
pub flag-read : (f : Found) (id : Text) (b : Bool) → (one_text f id ≡ Some (codes "true") → b ≡ true) → (one_text f id ≡ Some (codes "false") → b ≡ false)
    → GivesFlag (rows_of f) id → IsFlag (rows_of f) id b
flag-read f id b yes-true yes-false given = go (bytes_eq given.0 (codes "true")) refl given.2
  where
    go : (hit : Bool) → bytes_eq given.0 (codes "true") ≡ hit → (hit || bytes_eq given.0 (codes "false")) ≡ true → IsFlag (rows_of f) id b
    go true hit any =
        let text = given.1 ∙ ap Some ((bytes_eq-Decides given.0 (codes "true")).0 hit) in
        text ∙ ap (λ x. Some (bool_text x)) (sym (yes-true (one_text-rows f id ∙ text)))
    go false hit any =
        let text = given.1 ∙ ap Some ((bytes_eq-Decides given.0 (codes "false")).0 any) in
        text ∙ ap (λ x. Some (bool_text x)) (sym (yes-false (one_text-rows f id ∙ text)))

-- `get_str` has a text where the option names a format
pub format-there : (f : Found) (o : Option (Bor Text)) → option_map (λ s. s.now) o ≡ first_value f (codes "format") → GivesFormat (rows_of f) → IsSome o
format-there f o got given = text-there f (codes "format") o got (format_word given.0, given.1)

-- a format that is named by another word than these three is the text
pub format-left : (matches : List Row) (word : Text) → IsText matches (codes "format") word → GivesFormat matches
    → (word ≡ codes "json" → ⊥) → (word ≡ codes "mermaid" → ⊥) → (word ≡ codes "svg" → ⊥) → IsFormat matches format.Text
format-left matches word is given json mermaid svg = go given.0 given.1
  where
    same : (f : Format) → IsFormat matches f → word ≡ format_word f
    same f at =
        let both : Some word ≡ Some (format_word f) = sym is ∙ at in
        cc

    go : (f : Format) → IsFormat matches f → IsFormat matches format.Text
    go format.Text at = at
    go format.Json at = absurd (json (same format.Json at))
    go format.Mermaid at = absurd (mermaid (same format.Mermaid at))
    go format.Svg at = absurd (svg (same format.Svg at))

-- ---- numbers that may be left out

-- `get_one` has the number that the argument has, and none where this one has none
pub number-if-read : {E : Type 0} (G : List ℕ → Result ℕ E → Type 0) (f : Found) (id : Text) (low high : ℕ) (o : Option ℕ) → (one_text f id ≡ None → o ≡ None)
    → ((t : Text) → one_text f id ≡ Some t → ReadsOne G t o) → ((t : Text) (r : Result ℕ E) → G t r → ParsesUnsigned 64 10 t r)
    → MayGiveNumber (rows_of f) id low high → IsNumberIfGiven (rows_of f) id o
number-if-read G f id low high o left read only (inl none) =
    ap (option_map (λ t. digits_value 10 (without_leading_plus t))) none.0 ∙ sym (left (one_text-rows f id ∙ none.0))
number-if-read G f id low high o left read only (inr given) =
    let number = number-read G f id low high o read only given in
    number.2 ∙ sym number.1

-- ---- the steps of a plan

-- ---- what a bound is tested by

-- `get_str` has a text exactly where the argument has one
pub text-given : (f : Found) (id : Text) (o : Option (Bor Text)) → option_map (λ s. s.now) o ≡ first_value f id → is_some o ≡ is_some (first_of id (rows_of f))
text-given f id None got = ap (λ t. is_some t) (got ∙ first_value-rows f id)
text-given f id (Some s) got = ap (λ t. is_some t) (got ∙ first_value-rows f id)

-- a flag's value tells whether it is set
pub flag-set : (matches : List Row) (id : Text) (b : Bool) → IsFlag matches id b → is_set id matches ≡ b
flag-set matches id true is = ap (λ o. option_map_or (λ text. bytes_eq text (codes "true")) o false) is
flag-set matches id false is = ap (λ o. option_map_or (λ text. bytes_eq text (codes "true")) o false) is

-- ---- verdicts

-- a text that `get_str` has names a verdict
pub verdict-there : (f : Found) (id : Text) (o : Option (Bor Text)) (s : Bor Text) → option_map (λ x. x.now) o ≡ first_value f id → o ≡ Some s → MayGiveVerdict (rows_of f) id
    → (v : Verdict) × (s.now ≡ verdict_word v)
verdict-there f id o s got is (inl none) =
    let no : Some s.now ≡ None = sym (text-copied f id o s s.now got is refl) ∙ none in
    cc
verdict-there f id o s got is (inr given) =
    let both : Some s.now ≡ Some (verdict_word given.0) = sym (text-copied f id o s s.now got is refl) ∙ given.1 in
    (given.0, cc)

-- and the argument names the verdict that is named by it
pub verdict-read : (f : Found) (id : Text) (o : Option (Bor Text)) (s : Bor Text) (v : Verdict) → option_map (λ x. x.now) o ≡ first_value f id → o ≡ Some s
    → s.now ≡ verdict_word v → IsVerdictIfGiven (rows_of f) id (Some v)
verdict-read f id o s v got is named = text-copied f id o s s.now got is refl ∙ ap Some named

-- ---- formats of findings

pub lint-format-there : (f : Found) (o : Option (Bor Text)) → option_map (λ s. s.now) o ≡ first_value f (codes "format") → GivesLintFormat (rows_of f) → IsSome o
lint-format-there f o got given = text-there f (codes "format") o got (lint_format_word given.0, given.1)

-- a format that is named by another word than `json` is the text
pub lint-format-left : (matches : List Row) (word : Text) → IsText matches (codes "format") word → GivesLintFormat matches → (word ≡ codes "json" → ⊥)
    → IsLintFormat matches lint_format.Text
lint-format-left matches word is given json = go given.0 given.1
  where
    go : (f : LintFormat) → IsLintFormat matches f → IsLintFormat matches lint_format.Text
    go lint_format.Text at = at
    go lint_format.Json at =
        let both : Some word ≡ Some (codes "json") = sym is ∙ at in
        absurd (json cc)

-- ---- arguments with several texts

pub texts-there : (f : Found) (id : Text) (o : Option (Bor (List (Bor Text)))) → option_map (λ s. map (λ v. v.now) s.now) o ≡ option_map raw_values (matched_of f id)
    → GivesTexts (rows_of f) id → IsSome o
texts-there f id (Some s) got given = refl
texts-there f id None got given =
    let rows = raw_values-rows f id in
    let is = given.1 in
    cc

pub texts-copied : (f : Found) (id : Text) (o : Option (Bor (List (Bor Text)))) (s : Bor (List (Bor Text))) (copies : List Text)
    → option_map (λ x. map (λ v. v.now) x.now) o ≡ option_map raw_values (matched_of f id) → o ≡ Some s → copies ≡ map (λ v. v.now) s.now → AreTexts (rows_of f) id copies
texts-copied f id o s copies got is same =
    sym (raw_values-rows f id) ∙ sym got ∙ ap (option_map (λ (x : Bor (List (Bor Text))). map (λ v. v.now) x.now)) is ∙ ap Some (sym same)

-- Lines and the blanks at their ends.
use Rattle.std.proofs.Common.{◌≡◌, ℕ, Bool, cond, ◌&&◌, false, true, List, [], ◌∷◌, ◌++◌, reverse, sym, refl, ap, ◌∙◌, subst}
use Rattle.std.proofs.lemmas.List.{reverse-append}
use Rattle.std.proofs.lemmas.List.Folds.{list_all-append}
use Rattle.std.specs.List.{list_all}
use Rattle.report.specs.internal.Reader.{without_blanks_before, without_blanks_behind}
use Rattle.ttcn_syntax.specs.Characters.{is_blank}

abbrev blank : List ℕ → Type 0
blank bytes = list_all is_blank bytes ≡ true

and-true : (a b : Bool) → (a && b) ≡ true → (a ≡ true) × (b ≡ true)
and-true true b h = (refl, h)
and-true false b h = absurd (cc)

and-false : (a : Bool) → (a && false) ≡ false
and-false true = refl
and-false false = refl

-- ---- where they end

stop-before : (line others : List ℕ) (first : ℕ) → line ≡ first ∷ others → is_blank first ≡ false → line ≡ without_blanks_before line
stop-before line others first is h = rw (is, h)

reverse-push : (xs : List ℕ) (x : ℕ) → reverse (xs ++ x ∷ []) ≡ x ∷ reverse xs
reverse-push xs x = reverse-append xs (x ∷ [])

reverse-cons : (x : ℕ) (xs : List ℕ) → reverse (x ∷ xs) ≡ reverse xs ++ x ∷ []
reverse-cons x xs = reverse-append (x ∷ []) xs

reverse-twice : (xs : List ℕ) → reverse (reverse xs) ≡ xs
reverse-twice [] = refl
reverse-twice (x ∷ xs) = ap reverse (reverse-cons x xs) ∙ (reverse-push (reverse xs) x ∙ ap (λ t. x ∷ t) (reverse-twice xs))

stop_behind : (line others : List ℕ) (last : ℕ) → line ≡ others ++ last ∷ [] → is_blank last ≡ false → line ≡ without_blanks_behind line
stop_behind line others last is h =
    sym (reverse-twice line) ∙ ap reverse (stop-before (reverse line) (reverse others) last (ap reverse is ∙ reverse-push others last) h)

-- ---- what is left out is blank

split-before-at : (b : Bool) (first : ℕ) (others : List ℕ) → is_blank first ≡ b
    → (blanks : List ℕ) × blank blanks × (others ≡ blanks ++ without_blanks_before others)
    → (blanks : List ℕ) × blank blanks × (first ∷ others ≡ blanks ++ cond b (without_blanks_before others) (first ∷ others))
split-before-at true first others is found = (first ∷ found.0, rw (is, found.1), ap (λ t. first ∷ t) found.2)
split-before-at false first others is found = ([], refl, refl)

split-before : (line : List ℕ) → (blanks : List ℕ) × blank blanks × (line ≡ blanks ++ without_blanks_before line)
split-before [] = ([], refl, refl)
split-before (first ∷ others) = split-before-at (is_blank first) first others refl (split-before others)

blank-reverse : (xs : List ℕ) → blank xs → blank (reverse xs)
blank-reverse [] h = refl
blank-reverse (x ∷ xs) h =
    let parts = and-true (is_blank x) (list_all is_blank xs) h in
    ap (list_all is_blank) (reverse-cons x xs) ∙ (list_all-append is_blank (reverse xs) (x ∷ []) ∙ rw (blank-reverse xs parts.1, parts.0))

split-behind : (line : List ℕ) → (blanks : List ℕ) × blank blanks × (line ≡ without_blanks_behind line ++ blanks)
split-behind line =
    let found = split-before (reverse line) in
    (reverse found.0, blank-reverse found.0 found.1, sym (reverse-twice line) ∙ (ap reverse found.2 ∙ reverse-append found.0 (without_blanks_before (reverse line))))

-- ---- blanks around what is not blank at its ends are what is left out

past-before : (blanks rest : List ℕ) → blank blanks → without_blanks_before (blanks ++ rest) ≡ without_blanks_before rest
past-before [] rest h = refl
past-before (b ∷ blanks) rest h =
    let parts = and-true (is_blank b) (list_all is_blank blanks) h in
    rw (parts.0) (past-before blanks rest parts.1)

past-behind : (blanks rest : List ℕ) → blank blanks → without_blanks_behind (rest ++ blanks) ≡ without_blanks_behind rest
past-behind blanks rest h =
    ap reverse (ap without_blanks_before (reverse-append rest blanks) ∙ past-before (reverse blanks) (reverse rest) (blank-reverse blanks h))

-- a text that begins and ends with no blank stands between blanks in one way
pub text-between : (before text behind others front : List ℕ) (first last : ℕ) → blank before → blank behind
    → text ≡ first ∷ others → is_blank first ≡ false → text ≡ front ++ last ∷ [] → is_blank last ≡ false
    → without_blanks_behind (without_blanks_before (before ++ (text ++ behind))) ≡ text
text-between before text behind others front first last blank_before blank_behind begins no_first ends no_last =
    let start : without_blanks_before (before ++ (text ++ behind)) ≡ text ++ behind =
    past-before before (text ++ behind) blank_before
    ∙ sym (stop-before (text ++ behind) (others ++ behind) first (ap (λ t. t ++ behind) begins) no_first) in
    ap without_blanks_behind start ∙ (past-behind behind text blank_behind ∙ sym (stop_behind text front last ends no_last))

-- ---- lines without anything else

blank-append : (xs ys : List ℕ) → blank xs → blank ys → blank (xs ++ ys)
blank-append xs ys one other = list_all-append is_blank xs ys ∙ rw (one, other)

-- nothing is left of blanks alone
pub blank-line : (line : List ℕ) → without_blanks_behind (without_blanks_before line) ≡ [] → list_all is_blank line ≡ true
blank-line line none =
    let before = split-before line in
    let behind = split-behind (without_blanks_before line) in
    let rest : without_blanks_before line ≡ behind.0 = behind.2 ∙ ap (λ t. t ++ behind.0) none in
    subst blank (sym (before.2 ∙ ap (λ t. before.0 ++ t) rest)) (blank-append before.0 behind.0 before.1 behind.1)

-- what stands between blanks
pub line-parts : (line : List ℕ) → (before : List ℕ) × (behind : List ℕ) × blank before × blank behind
    × (line ≡ before ++ (without_blanks_behind (without_blanks_before line) ++ behind))
line-parts line =
    let before = split-before line in
    let behind = split-behind (without_blanks_before line) in
    (before.0, behind.0, before.1, behind.1, before.2 ∙ ap (λ t. before.0 ++ t) behind.2)

-- of blanks alone nothing is left
none-before : (line : List ℕ) → blank line → without_blanks_before line ≡ []
none-before [] h = refl
none-before (b ∷ line) h =
    let parts = and-true (is_blank b) (list_all is_blank line) h in
    rw (parts.0) (none-before line parts.1)

pub blank-core : (line : List ℕ) → list_all is_blank line ≡ true → without_blanks_behind (without_blanks_before line) ≡ []
blank-core line h = ap without_blanks_behind (none-before line h)

-- Labels and their texts.
use Rattle.std.proofs.Common.{◌≡◌, ◌≢◌, ℕ, Bool, ltb, ◌||◌, ◌&&◌, false, true, true≢false, List, [], ◌∷◌, ◌++◌, Option, Some, None, sym, refl, ap, ◌∙◌, arith, codes, get_or, subst}
use Rattle.std.proofs.lemmas.Bool.Decides.{nat_tests}
use Rattle.std.proofs.lemmas.List.Folds.{list_any-append}
use Rattle.std.specs.Char.{encode_utf8}
use Rattle.std.specs.Fmt.{decimal}
use Rattle.std.specs.List.{AllByRecursion, flat_map, list_all, list_any}
use Rattle.std.specs.Option.{IsSomeAnd, MatchOption}
use Rattle.report.specs.Labels.{delivery_text, expiry_text, label_text, name_text, number_text, path_text}
use Rattle.report.specs.Runs.{IsProper, IsSmall, is_identifier}
use Rattle.report.specs.internal.Reader.{HasBareEnds, IsCut, IsNoExpiry, IsNoLabel, IsNoNumber, IsNoPath, IsPath, IsReadAs, TellsExpiry, TellsName}
use Rattle.report.proofs.Cuts.{cut-none, cut-same, path-lacks-slash, path-same}
use Rattle.report.proofs.Digits.{decimal-lacks, decimal-no-blank, number-same}
use Rattle.step_labels.specs.declared.label.Label.{Label}
use Rattle.step_labels.specs.declared.label.Label.TheVariants.{Delivery, Expiry, Statement}
use Rattle.ttcn_syntax.specs.Characters.{is_blank, is_letter, is_word_byte}
use Rattle.value_types.specs.declared.path.Path.{Path}

and-true : (a b : Bool) → (a && b) ≡ true → (a ≡ true) × (b ≡ true)
and-true true b h = (refl, h)
and-true false b h = absurd (cc)

-- ---- the names of timers and system ports

word-low : (b : ℕ) → is_word_byte b ≡ true → ltb b 128 ≡ true
word-low b h = grind (arith, nat_tests)

letter-is-word : (b : ℕ) → is_letter b ≡ true → is_word_byte b ≡ true
letter-is-word b h = rw h

identifier-words : (name : List ℕ) → is_identifier name ≡ true → list_all is_word_byte name ≡ true
identifier-words [] h = refl
identifier-words (first ∷ others) h =
    let parts = and-true (is_letter first) (list_all is_word_byte others) h in
    rw (letter-is-word first parts.0, parts.1)

words-plain : (name : List ℕ) → list_all is_word_byte name ≡ true → name_text name ≡ name
unfolding encode_utf8
words-plain [] h = refl
words-plain (b ∷ name) h =
    let parts = and-true (is_word_byte b) (list_all is_word_byte name) h in
    rw (word-low b parts.0) (ap (λ t. b ∷ t) (words-plain name parts.1))

-- such a name is written as it is
pub name-plain : (name : List ℕ) → is_identifier name ≡ true → name_text name ≡ name
name-plain name h = words-plain name (identifier-words name h)

pub identifier-read : (name others : List ℕ) (first : ℕ) (r : Bool) → name ≡ first ∷ others → is_letter first ≡ true → r ≡ list_all is_word_byte others → r ≡ is_identifier name
identifier-read name others first r is letter read = read ∙ sym (ap is_identifier is ∙ rw letter)

-- ---- the parts of a label's text

append-point : (digits name : List ℕ) → (digits ++ 46 ∷ []) ++ name ≡ digits ++ 46 ∷ name
append-point [] name = refl
append-point (d ∷ digits) name = ap (λ t. d ∷ t) (append-point digits name)

-- the text of an expiry, behind the slash
expiry-behind : (frame : ℕ) (timer : List ℕ) → is_identifier timer ≡ true → expiry_text frame timer ≡ 47 ∷ (decimal frame ++ 46 ∷ timer)
expiry-behind frame timer h = ap (λ t. 47 ∷ t) (append-point (decimal frame) (name_text timer) ∙ ap (λ t. decimal frame ++ 46 ∷ t) (name-plain timer h))

expiry-cut : (text before behind : List ℕ) (frame : ℕ) (timer : List ℕ) → IsCut 46 text before behind → TellsExpiry text frame timer → (before ≡ decimal frame) × (behind ≡ timer)
expiry-cut text before behind frame timer cut tells =
    cut-same 46 before behind (decimal frame) timer cut.0 (decimal-lacks 46 frame (omega arith) tells.0) (sym cut.1 ∙ tells.2)

pub expiry-none-number : (text before behind : List ℕ) → IsCut 46 text before behind → IsNoNumber before → IsNoExpiry text
expiry-none-number text before behind cut bad = λ frame timer tells. bad frame tells.0 (expiry-cut text before behind frame timer cut tells).0

pub expiry-none-name : (text before behind : List ℕ) → IsCut 46 text before behind → is_identifier behind ≡ false → IsNoExpiry text
expiry-none-name text before behind cut bad = λ frame timer tells.
    true≢false (sym tells.1 ∙ (ap is_identifier (sym (expiry-cut text before behind frame timer cut tells).1) ∙ bad))

-- texts that differ at a place
pub apart : (text one other : List ℕ) (k : ℕ) → get_or one k 0 ≢ get_or other k 0 → text ≡ one → text ≡ other → ⊥
apart text one other k differ left right = differ (ap (λ t. get_or t k 0) (sym left ∙ right))

-- a text that begins with `m` is that of no delivery
no-delivery : (text others name : List ℕ) → text ≡ 109 ∷ others → text ≡ delivery_text name → ⊥
no-delivery text others name begins whole = apart text (109 ∷ others) (delivery_text name) 0 (omega arith) begins whole

-- what stands behind `system.` in the text of a label is the name of a system port
delivered : (text name : List ℕ) → text ≡ codes "system." ++ name → (label : Label) → IsProper label → text ≡ label_text label → is_identifier name ≡ true
delivered text name is (Statement path) proper whole = absurd (apart text _ _ 0 (omega arith) is whole)
delivered text name is (Expiry path frame timer) proper whole = absurd (apart text _ _ 0 (omega arith) is whole)
delivered text name is (Delivery q) proper whole =
    let both : codes "system." ++ name ≡ codes "system." ++ name_text q = sym is ∙ whole in
    let rest : name ≡ name_text q = cc in
    ap is_identifier (rest ∙ name-plain q proper) ∙ proper

-- the label of a delivery
pub delivery-read : (text name : List ℕ) (o : Option (List ℕ)) (m : Option Label) → text ≡ codes "system." ++ name → TellsName name o
    → MatchOption o (m ≡ None) (λ x. IsSomeAnd m (λ label. label ≡ Delivery x)) → IsReadAs label_text IsProper text m
delivery-read text name None m is bad made =
    subst (IsReadAs label_text IsProper text) (sym made) (λ label proper whole. true≢false (sym (delivered text name is label proper whole) ∙ bad))
delivery-read text name (Some q) None is good made = absurd made
delivery-read text name (Some q) (Some label) is good made =
    let proper : is_identifier q ≡ true = ap is_identifier good.1 ∙ good.0 in
    subst (λ l. IsReadAs label_text IsProper text (Some l)) (sym made)
    (is ∙ ap (λ t. codes "system." ++ t) (sym good.1 ∙ sym (name-plain q proper)), proper)

-- a label whose text has a slash is an expiry, and its path and its timer stand before and behind
slashed : (text names path timer : List ℕ) → text ≡ 109 ∷ 116 ∷ 99 ∷ names → IsCut 47 names path timer → (label : Label) → IsProper label → text ≡ label_text label
    → (ns : List ℕ) × (frame : ℕ) × (name : List ℕ) × IsPath path ns × TellsExpiry timer frame name
slashed text names path timer is cut (Statement p) proper whole =
    let rest : names ≡ flat_map number_text p.numbers = cc in
    absurd (cut-none 47 (flat_map number_text p.numbers) path timer (path-lacks-slash p.numbers proper) (sym rest ∙ cut.1))
slashed text names path timer is cut (Expiry p frame name) proper whole =
    let rest : names ≡ flat_map number_text p.numbers ++ expiry_text frame name = cc in
    let behind : names ≡ flat_map number_text p.numbers ++ 47 ∷ (decimal frame ++ 46 ∷ name) = rest ∙ ap (λ t. flat_map number_text p.numbers ++ t) (expiry-behind frame name proper.2) in
    let same = cut-same 47 path timer (flat_map number_text p.numbers) _ cut.0 (path-lacks-slash p.numbers proper.0) (sym cut.1 ∙ behind) in
    (p.numbers, frame, name, (proper.0, same.0), (proper.1, proper.2, same.1))
slashed text names path timer is cut (Delivery name) proper whole = absurd (no-delivery text (116 ∷ 99 ∷ names) name is whole)

pub no-label-from-expiry : (text names path timer : List ℕ) → text ≡ 109 ∷ 116 ∷ 99 ∷ names → IsCut 47 names path timer → IsNoExpiry timer → IsNoLabel text
no-label-from-expiry text names path timer is cut bad = λ label proper whole.
    let found = slashed text names path timer is cut label proper whole in
    bad found.1 found.2 found.4

pub no-label-before-slash : (text names path timer : List ℕ) → text ≡ 109 ∷ 116 ∷ 99 ∷ names → IsCut 47 names path timer → IsNoPath path → IsNoLabel text
no-label-before-slash text names path timer is cut bad = λ label proper whole.
    let found = slashed text names path timer is cut label proper whole in
    bad found.0 found.3

-- the label of an expiry
pub expiry-read : (text names before timer : List ℕ) (path : Path) (frame : ℕ) (name : List ℕ) → text ≡ 109 ∷ 116 ∷ 99 ∷ names → IsCut 47 names before timer → TellsExpiry timer frame name → IsPath before path.numbers
    → (text ≡ label_text (Expiry path frame name)) × IsProper (Expiry path frame name)
expiry-read text names before timer path frame name is cut tells told =
    let tail : 47 ∷ timer ≡ expiry_text frame name = sym (expiry-behind frame name tells.1 ∙ ap (λ t. 47 ∷ t) (sym tells.2)) in
    let behind : names ≡ flat_map number_text path.numbers ++ expiry_text frame name =
    cut.1 ∙ ap (λ t. t ++ 47 ∷ timer) told.1 ∙ ap (λ t. flat_map number_text path.numbers ++ t) tail in
    (is ∙ ap (λ t. 109 ∷ 116 ∷ 99 ∷ t) behind, (told.0, tells.0, tells.1))

-- ---- no label's text has a blank

abbrev no_blank : List ℕ → Type 0
no_blank bytes = list_any is_blank bytes ≡ false

or-false : (a b : Bool) → (a || b) ≡ false → (a ≡ false) × (b ≡ false)
or-false false b h = (refl, h)
or-false true b h = absurd (cc)

no_blank-append : (xs ys : List ℕ) → no_blank xs → no_blank ys → no_blank (xs ++ ys)
no_blank-append xs ys one other = list_any-append is_blank xs ys ∙ rw (one, other)

word-no-blank : (b : ℕ) → is_word_byte b ≡ true → is_blank b ≡ false
word-no-blank b h = grind (arith, nat_tests)

words-no-blank : (name : List ℕ) → list_all is_word_byte name ≡ true → no_blank name
words-no-blank [] h = refl
words-no-blank (b ∷ name) h =
    let parts = and-true (is_word_byte b) (list_all is_word_byte name) h in
    rw (word-no-blank b parts.0) (words-no-blank name parts.1)

path-no-blank : (ns : List ℕ) → AllByRecursion IsSmall ns → no_blank (flat_map number_text ns)
path-no-blank [] all = refl
path-no-blank (n ∷ ns) all = no_blank-append (decimal n) (flat_map number_text ns) (decimal-no-blank n all.0) (path-no-blank ns all.1)

expiry-no-blank : (frame : ℕ) (timer : List ℕ) → IsSmall frame → is_identifier timer ≡ true → no_blank (expiry_text frame timer)
expiry-no-blank frame timer small name =
    ap (list_any is_blank) (expiry-behind frame timer name)
    ∙ no_blank-append (decimal frame) (46 ∷ timer) (decimal-no-blank frame small) (words-no-blank timer (identifier-words timer name))

ends : (x : ℕ) (xs : List ℕ) → no_blank (x ∷ xs) → (front : List ℕ) × (last : ℕ) × (x ∷ xs ≡ front ++ last ∷ []) × (is_blank last ≡ false)
ends x [] h = ([], x, refl, (or-false (is_blank x) false h).0)
ends x (y ∷ xs) h =
    let found = ends y xs (or-false (is_blank x) (list_any is_blank (y ∷ xs)) h).1 in
    (x ∷ found.0, found.1, ap (λ t. x ∷ t) found.2, found.3)

bare : (first : ℕ) (others : List ℕ) → no_blank (first ∷ others) → HasBareEnds (first ∷ others)
bare first others h =
    let end = ends first others h in
    record {
      first = first;
      others = others;
      begins = refl;
      no_blank_first = (or-false (is_blank first) (list_any is_blank others) h).0;
      front = end.0;
      last = end.1;
      ends = end.2;
      no_blank_last = end.3;
    }

pub name-ends : (ns : List ℕ) → AllByRecursion IsSmall ns → HasBareEnds (path_text ns)
name-ends ns all = bare 109 (116 ∷ 99 ∷ flat_map number_text ns) (path-no-blank ns all)

pub label-ends : (label : Label) → IsProper label → HasBareEnds (label_text label)
label-ends (Statement path) proper = name-ends path.numbers proper
label-ends (Expiry path frame timer) proper =
    bare 109 (116 ∷ 99 ∷ (flat_map number_text path.numbers ++ expiry_text frame timer))
    (no_blank-append (flat_map number_text path.numbers) (expiry_text frame timer) (path-no-blank path.numbers proper.0) (expiry-no-blank frame timer proper.1 proper.2))
label-ends (Delivery name) proper =
    bare 115 (codes "ystem." ++ name_text name) (no_blank-append (codes "ystem.") (name_text name) refl (ap (list_any is_blank) (name-plain name proper) ∙ words-no-blank name (identifier-words name proper)))

-- ---- a text is that of one label

-- the name of a system port stands in one delivery's text
delivery-same : (one other : List ℕ) → is_identifier one ≡ true → is_identifier other ≡ true → delivery_text one ≡ delivery_text other → one ≡ other
delivery-same one other proper proper_other is =
    let names : name_text one ≡ name_text other = cc in
    sym (name-plain one proper) ∙ names ∙ name-plain other proper_other

-- a name is that of one component
pub name-same : (one other : Path) → AllByRecursion IsSmall one.numbers → AllByRecursion IsSmall other.numbers → path_text one.numbers ≡ path_text other.numbers → one ≡ other
name-same one other proper proper_other is =
    let made : List ℕ → Path = λ numbers. record { numbers = numbers } in
    let tails : flat_map number_text one.numbers ≡ flat_map number_text other.numbers = cc in
    ap made (path-same (flat_map number_text one.numbers) one.numbers other.numbers (proper, refl) (proper_other, tails))

-- the text of a statement is that of no expiry
no-slash-slash : (p q : Path) (frame : ℕ) (timer : List ℕ) → AllByRecursion IsSmall p.numbers → label_text (Statement p) ≡ label_text (Expiry q frame timer) → ⊥
no-slash-slash p q frame timer proper is =
    let tails : flat_map number_text p.numbers ≡ flat_map number_text q.numbers ++ expiry_text frame timer = cc in
    cut-none 47 (flat_map number_text p.numbers) (flat_map number_text q.numbers) _ (path-lacks-slash p.numbers proper) tails

expiry-same : (p q : Path) (m n : ℕ) (name other : List ℕ) → IsProper (Expiry p m name) → IsProper (Expiry q n other) → label_text (Expiry p m name) ≡ label_text (Expiry q n other) → Expiry p m name ≡ Expiry q n other
expiry-same p q m n name other one two is =
    let tails : flat_map number_text p.numbers ++ expiry_text m name ≡ flat_map number_text q.numbers ++ expiry_text n other = cc in
    let cut : flat_map number_text p.numbers ++ 47 ∷ (decimal m ++ 46 ∷ name) ≡ flat_map number_text q.numbers ++ 47 ∷ (decimal n ++ 46 ∷ other) =
    sym (ap (λ t. flat_map number_text p.numbers ++ t) (expiry-behind m name one.2)) ∙ tails ∙ ap (λ t. flat_map number_text q.numbers ++ t) (expiry-behind n other two.2) in
    let same = cut-same 47 (flat_map number_text p.numbers) _ (flat_map number_text q.numbers) _ (path-lacks-slash p.numbers one.0) (path-lacks-slash q.numbers two.0) cut in
    let inner = cut-same 46 (decimal m) name (decimal n) other (decimal-lacks 46 m (omega arith) one.1) (decimal-lacks 46 n (omega arith) two.1) same.1 in
    let paths : p ≡ q = name-same p q one.0 two.0 (ap (λ t. 109 ∷ 116 ∷ 99 ∷ t) same.0) in
    let frames : m ≡ n = number-same (decimal m) m n (one.1, refl) (two.1, inner.0) in
    ap (λ path. Expiry path m name) paths ∙ ap (λ frame. Expiry q frame name) frames ∙ ap (Expiry q n) inner.1

pub label-same : (text : List ℕ) (one other : Label) → IsProper one → IsProper other → text ≡ label_text one → text ≡ label_text other → one ≡ other
label-same text (Statement p) (Statement q) one other left right = ap Statement (name-same p q one other (sym left ∙ right))
label-same text (Statement p) (Expiry q frame timer) one other left right = absurd (no-slash-slash p q frame timer one (sym left ∙ right))
label-same text (Expiry p frame timer) (Statement q) one other left right = absurd (no-slash-slash q p frame timer other (sym right ∙ left))
label-same text (Expiry p m name) (Expiry q n other_name) one other left right = expiry-same p q m n name other_name one other (sym left ∙ right)
label-same text (Statement p) (Delivery name) one other left right = absurd (no-delivery text _ name left right)
label-same text (Expiry p frame timer) (Delivery name) one other left right = absurd (no-delivery text _ name left right)
label-same text (Delivery name) (Statement q) one other left right = absurd (no-delivery text _ name right left)
label-same text (Delivery name) (Expiry q frame timer) one other left right = absurd (no-delivery text _ name right left)
label-same text (Delivery name) (Delivery other_name) one other left right = ap Delivery (delivery-same name other_name one other (sym left ∙ right))

-- Where a text is cut, and what its parts are.
use Rattle.std.proofs.Common.{◌≡◌, ◌≢◌, ℕ, ◌+◌, ◌<◌, Bool, cond, eqb, false, true, ◌||◌, List, [], ◌∷◌, ◌++◌, length, get_or, map, sym, refl, ap, ◌∙◌, subst, arith, zero, suc, append-nil, drop, take, Option, Some, None, add-one, length-take}
use Rattle.std.proofs.lemmas.Bool.Decides.{nat_tests}
use Rattle.std.proofs.Math.Seq.{drop-cons}
use Rattle.std.proofs.lemmas.List.{get_or-take, take-append-drop, take_all, take_more}
use Rattle.std.proofs.lemmas.List.Folds.{list_any-append}
use Rattle.std.proofs.lemmas.List.Splits.{join_with_byte-slice_split, slice_split-cons_no, slice_split-cons_yes}
use Rattle.std.specs.Fmt.{decimal}
use Rattle.std.specs.Option.{MatchOption}
use Rattle.std.specs.List.{AllByRecursion, AllWithin, AllZip, HoldsAt, flat_map, join_with_byte, list_any, onto_first, slice_split}
use Rattle.report.specs.Labels.{number_text}
use Rattle.report.specs.Runs.{IsNumber, IsSmall}
use Rattle.report.specs.internal.Reader.{IsCut, IsNoNumber, IsNoPath, IsPath, lacks}
use Rattle.report.proofs.Digits.{decimal-lacks, number-same}

or-false : (a b : Bool) → (a || b) ≡ false → (a ≡ false) × (b ≡ false)
or-false false b h = (refl, h)
or-false true b h = absurd (cc)

eqb-self : (n : ℕ) → eqb n n ≡ true
eqb-self n = grind (arith, nat_tests)

lacks-itself : (mark : ℕ) (xs : List ℕ) → lacks mark (mark ∷ xs) → ⊥
lacks-itself mark xs h = let other = (or-false (eqb mark mark) (list_any (λ b. eqb b mark) xs) h).0 in let same = eqb-self mark in cc

pub lacks-append : (mark : ℕ) (xs ys : List ℕ) → lacks mark xs → lacks mark ys → lacks mark (xs ++ ys)
lacks-append mark xs ys one other = list_any-append (λ b. eqb b mark) xs ys ∙ rw (one, other)

-- a list that lacks the mark is no cut one
pub cut-none : (mark : ℕ) (whole xs ys : List ℕ) → lacks mark whole → whole ≡ xs ++ mark ∷ ys → ⊥
cut-none mark whole [] ys h is = lacks-itself mark ys (subst (lacks mark) is h)
cut-none mark [] (x ∷ xs) ys h is = cc
cut-none mark (w ∷ whole) (x ∷ xs) ys h is =
    let rest : whole ≡ xs ++ mark ∷ ys = cc in
    cut-none mark whole xs ys (or-false _ _ h).1 rest

-- a list has one cut at its first mark
pub cut-same : (mark : ℕ) (xs ys us vs : List ℕ) → lacks mark xs → lacks mark us → xs ++ mark ∷ ys ≡ us ++ mark ∷ vs → (xs ≡ us) × (ys ≡ vs)
cut-same mark [] ys [] vs one other is = (refl, cc)
cut-same mark [] ys (u ∷ us) vs one other is =
    let first : mark ≡ u = cc in absurd (lacks-itself mark us (subst (λ k. lacks mark (k ∷ us)) (sym first) other))
cut-same mark (x ∷ xs) ys [] vs one other is =
    let first : mark ≡ x = cc in absurd (lacks-itself mark xs (subst (λ k. lacks mark (k ∷ xs)) (sym first) one))
cut-same mark (x ∷ xs) ys (u ∷ us) vs one other is =
    let rest : xs ++ mark ∷ ys ≡ us ++ mark ∷ vs = cc in
    let first : x ≡ u = cc in
    let same = cut-same mark xs ys us vs (or-false _ _ one).1 (or-false _ _ other).1 rest in
    (rw (first, same.0), same.1)

-- ---- parts

split_last : (mark : ℕ) (xs : List ℕ) → lacks mark xs → slice_split (λ b. eqb b mark) xs ≡ xs ∷ []
split_last mark [] h = refl
split_last mark (x ∷ xs) h =
    slice_split-cons_no (λ b. eqb b mark) x xs (or-false _ _ h).0 ∙ ap (onto_first x) (split_last mark xs (or-false _ _ h).1)

split_first : (mark : ℕ) (xs ys : List ℕ) → lacks mark xs → slice_split (λ b. eqb b mark) (xs ++ mark ∷ ys) ≡ xs ∷ slice_split (λ b. eqb b mark) ys
split_first mark [] ys h = slice_split-cons_yes (λ b. eqb b mark) mark ys (eqb-self mark)
split_first mark (x ∷ xs) ys h =
    slice_split-cons_no (λ b. eqb b mark) x (xs ++ mark ∷ ys) (or-false _ _ h).0 ∙ ap (onto_first x) (split_first mark xs ys (or-false _ _ h).1)

-- the parts between points are the numbers' digits
split-path : (n : ℕ) (ns : List ℕ) → IsSmall n → AllByRecursion IsSmall ns
    → slice_split (λ b. eqb b 46) (decimal n ++ flat_map number_text ns) ≡ map decimal (n ∷ ns)
split-path n [] small all = rw (append-nil (decimal n)) (split_last 46 (decimal n) (decimal-lacks 46 n (omega arith) small))
split-path n (m ∷ ns) small all =
    split_first 46 (decimal n) (decimal m ++ flat_map number_text ns) (decimal-lacks 46 n (omega arith) small)
    ∙ ap (λ parts. decimal n ∷ parts) (split-path m ns all.0 all.1)

join-path : (n : ℕ) (ns : List ℕ) → join_with_byte 46 (map decimal (n ∷ ns)) ≡ decimal n ++ flat_map number_text ns
join-path n [] = sym (append-nil (decimal n))
join-path n (m ∷ ns) = ap (λ t. decimal n ++ 46 ∷ t) (join-path m ns)

zip-numbers : (parts : List (List ℕ)) (ns : List ℕ) → AllZip IsNumber parts ns → AllByRecursion IsSmall ns × (parts ≡ map decimal ns)
zip-numbers [] [] h = (tt, refl)
zip-numbers [] (n ∷ ns) h = absurd h
zip-numbers (part ∷ parts) [] h = absurd h
zip-numbers (part ∷ parts) (n ∷ ns) h =
    let more = zip-numbers parts ns h.1 in
    ((h.0.0, more.0), rw (h.0.1, more.1))

onto-first-some : (x : ℕ) (parts : List (List ℕ)) → onto_first x parts ≢ []
onto-first-some x [] is = cc
onto-first-some x (part ∷ parts) is = cc

split-some-at : (b : Bool) (x : ℕ) (parts : List (List ℕ)) → cond b ([] ∷ parts) (onto_first x parts) ≢ []
split-some-at true x parts is = cc
split-some-at false x parts is = onto-first-some x parts is

split-some : (p : ℕ → Bool) (xs : List ℕ) → slice_split p xs ≢ []
split-some p [] is = cc
split-some p (x ∷ xs) is = split-some-at (p x) x (slice_split p xs) is

-- parts that are numbers' digits are those of a path
pub path-from-parts : (others : List ℕ) (ns : List ℕ) → AllZip IsNumber (slice_split (λ b. eqb b 46) others) ns → IsPath (46 ∷ others) ns
path-from-parts others [] zip = absurd (split-some (λ b. eqb b 46) others (zip-numbers _ _ zip).1)
path-from-parts others (n ∷ ns) zip =
    let numbers = zip-numbers (slice_split (λ b. eqb b 46) others) (n ∷ ns) zip in
    let joined : others ≡ decimal n ++ flat_map number_text ns =
    sym (join_with_byte-slice_split 46 others) ∙ (ap (join_with_byte 46) numbers.1 ∙ join-path n ns) in
    (numbers.0, ap (λ t. 46 ∷ t) joined)

part_at : (ns : List ℕ) (k : ℕ) (d : List ℕ) → AllByRecursion IsSmall ns → k < length (map decimal ns) → (n : ℕ) × IsNumber (get_or (map decimal ns) k d) n
part_at [] k d all within = absurd (omega arith)
part_at (n ∷ ns) zero d all within = (n, (all.0, refl))
part_at (n ∷ ns) (suc k) d all within = part_at ns k d all.1 (omega arith)

path-parts : (others ns : List ℕ) → IsPath (46 ∷ others) ns → slice_split (λ b. eqb b 46) others ≡ map decimal ns
path-parts others [] path = cc
path-parts others (n ∷ ns) path =
    let rest : others ≡ decimal n ++ flat_map number_text ns = cc (path.1) in
    ap (slice_split (λ b. eqb b 46)) rest ∙ split-path n ns path.0.0 path.0.1

-- a part that is no number's digits is in no path
pub no-path-from-part : (others : List ℕ) (k : ℕ) (part : List ℕ) → k < length (slice_split (λ b. eqb b 46) others)
    → part ≡ get_or (slice_split (λ b. eqb b 46) others) k part → IsNoNumber part → IsNoPath (46 ∷ others)
no-path-from-part others k part within is bad = λ ns path.
    let parts = path-parts others ns path in
    let at = part_at ns k part path.0 (subst (λ ps. k < length ps) parts within) in
    bad at.0 at.1.0 (is ∙ (ap (λ ps. get_or ps k part) parts ∙ at.1.1))

-- a text that does not begin with a point is no path's, unless it is empty
pub no-path-from-first : (text others : List ℕ) (first : ℕ) → text ≡ first ∷ others → first ≢ 46 → IsNoPath text
no-path-from-first text others first is other [] path = cc (path.1)
no-path-from-first text others first is other (n ∷ ns) path = other (let same : text ≡ 46 ∷ (decimal n ++ flat_map number_text ns) = path.1 in cc)

numbers-same : (ms ns : List ℕ) → AllByRecursion IsSmall ms → AllByRecursion IsSmall ns → map decimal ms ≡ map decimal ns → ms ≡ ns
numbers-same [] [] one other is = refl
numbers-same [] (n ∷ ns) one other is = cc
numbers-same (m ∷ ms) [] one other is = cc
numbers-same (m ∷ ms) (n ∷ ns) one other is =
    let first : decimal m ≡ decimal n = cc in
    let rest : map decimal ms ≡ map decimal ns = cc in
    rw (number-same (decimal m) m n (one.0, refl) (other.0, first), numbers-same ms ns one.1 other.1 rest)

-- paths are told apart by their texts
pub path-same : (text ms ns : List ℕ) → IsPath text ms → IsPath text ns → ms ≡ ns
path-same text [] [] one other = refl
path-same text [] (n ∷ ns) one other = let no-text : text ≡ [] = one.1 in let some : text ≡ 46 ∷ (decimal n ++ flat_map number_text ns) = other.1 in cc
path-same text (m ∷ ms) [] one other = let no-text : text ≡ [] = other.1 in let some : text ≡ 46 ∷ (decimal m ++ flat_map number_text ms) = one.1 in cc
path-same text (m ∷ ms) (n ∷ ns) one other =
    let first : text ≡ 46 ∷ (decimal m ++ flat_map number_text ms) = one.1 in
    let second : text ≡ 46 ∷ (decimal n ++ flat_map number_text ns) = other.1 in
    let rest : decimal m ++ flat_map number_text ms ≡ decimal n ++ flat_map number_text ns = cc in
    let parts : map decimal (m ∷ ms) ≡ map decimal (n ∷ ns) =
    sym (split-path m ms one.0.0 one.0.1) ∙ (ap (slice_split (λ b. eqb b 46)) rest ∙ split-path n ns other.0.0 other.0.1) in
    numbers-same (m ∷ ms) (n ∷ ns) one.0 other.0 parts

-- a path has no slash
pub path-lacks-slash : (ns : List ℕ) → AllByRecursion IsSmall ns → lacks 47 (flat_map number_text ns)
path-lacks-slash [] all = refl
path-lacks-slash (n ∷ ns) all = lacks-append 47 (decimal n) (flat_map number_text ns) (decimal-lacks 47 n (omega arith) all.0) (path-lacks-slash ns all.1)

-- ---- the loop over the parts of a path

pub AllZip-more : {A B : Type 0} (R : A → B → Type 0) (xs : List A) (ys : List B) (x : A) (y : B) → AllZip R xs ys → R x y → AllZip R (xs ++ x ∷ []) (ys ++ y ∷ [])
AllZip-more R [] [] x y h here = (here, tt)
AllZip-more R [] (b ∷ ys) x y h here = absurd h
AllZip-more R (a ∷ xs) [] x y h here = absurd h
AllZip-more R (a ∷ xs) (b ∷ ys) x y h here = (h.0, AllZip-more R xs ys x y h.1 here)

abbrev pub parts_of : List ℕ → List (List ℕ)
parts_of text = slice_split (λ b. eqb b 46) text

pub numbers-more : (text others : List ℕ) (first k count : ℕ) (part : List ℕ) (number : ℕ) (ns new : List ℕ) → text ≡ first ∷ others → count ≡ k + 1
    → (k < length (parts_of others)) × (part ≡ get_or (parts_of others) k part) → AllZip IsNumber (take k (parts_of (drop 1 text))) ns → IsNumber part number
    → new ≡ ns ++ number ∷ [] → AllZip IsNumber (take count (parts_of (drop 1 text))) new
numbers-more text others first k count part number ns new is counted turn so_far here pushed =
    let rest : drop 1 text ≡ others = ap (drop 1) is in
    let before : AllZip IsNumber (take k (parts_of others)) ns = subst (λ t. AllZip IsNumber (take k (parts_of t)) ns) rest so_far in
    let next : take count (parts_of others) ≡ take k (parts_of others) ++ part ∷ [] =
    ap (λ n. take n (parts_of others)) counted ∙ (take_more (parts_of others) k part turn.0 ∙ ap (λ x. take k (parts_of others) ++ x ∷ []) (sym turn.1)) in
    subst (λ t. AllZip IsNumber (take count (parts_of t)) new) (sym rest)
    (subst (λ ps. AllZip IsNumber ps new) (sym next)
    (subst (AllZip IsNumber (take k (parts_of others) ++ part ∷ [])) (sym pushed) (AllZip-more IsNumber (take k (parts_of others)) ns part number before here)))

pub numbers-all : (text others : List ℕ) (first k : ℕ) (ns : List ℕ) → text ≡ first ∷ others → first ≡ 46 → k ≡ length (parts_of others)
    → AllZip IsNumber (take k (parts_of (drop 1 text))) ns → IsPath text ns
numbers-all text others first k ns is point every so_far =
    let whole : text ≡ 46 ∷ others = is ∙ ap (λ b. b ∷ others) point in
    let rest : drop 1 text ≡ others = ap (drop 1) is in
    let all : take k (parts_of (drop 1 text)) ≡ parts_of others = ap (λ t. take k (parts_of t)) rest ∙ take_all k (parts_of others) (omega arith) in
    subst (λ t. IsPath t ns) (sym whole) (path-from-parts others ns (subst (λ ps. AllZip IsNumber ps ns) all so_far))

pub numbers-end : (text others : List ℕ) (first k : ℕ) (part : List ℕ) → text ≡ first ∷ others → first ≡ 46
    → (k < length (parts_of others)) × (part ≡ get_or (parts_of others) k part) → IsNoNumber part → IsNoPath text
numbers-end text others first k part is point turn bad =
    let whole : text ≡ 46 ∷ others = is ∙ ap (λ b. b ∷ others) point in
    subst IsNoPath (sym whole) (no-path-from-part others k part turn.0 turn.1 bad)

-- ---- the first mark of a text

lacks-from : (mark : ℕ) (xs : List ℕ) → ((k : ℕ) → k < length xs → eqb (get_or xs k 0) mark ≡ false) → lacks mark xs
lacks-from mark [] h = refl
lacks-from mark (x ∷ xs) h = rw (h 0 (omega arith)) (lacks-from mark xs (λ k within. h (suc k) (omega arith)))

pub first-mark : (mark : ℕ) (bytes : List ℕ) (r : Option ℕ)
    → MatchOption r (AllWithin (λ b. eqb b mark ≡ false) bytes 0 (length bytes)) (λ i. (i < length bytes) × HoldsAt (λ b. b ≡ mark) bytes i × AllWithin (λ b. eqb b mark ≡ false) bytes 0 i)
    → MatchOption r (lacks mark bytes) (λ i. (i < length bytes) × IsCut mark bytes (take i bytes) (drop (i + 1) bytes))
first-mark mark bytes None h = lacks-from mark bytes (λ k within. h k 0 (omega arith) within)
first-mark mark bytes (Some i) h =
    let before : lacks mark (take i bytes) =
    lacks-from mark (take i bytes) (λ k within.
    let low : k < i = omega (arith, length-take {A = ℕ}) in
    subst (λ b. eqb b mark ≡ false) (sym (get_or-take i bytes k 0 low)) (h.2 k 0 (omega arith) low)) in
    let rest : drop i bytes ≡ mark ∷ drop (i + 1) bytes = rw (add-one, drop-cons bytes i 0 h.0) (ap (λ b. b ∷ drop (suc i) bytes) (h.1 0)) in
    (h.0, (before, sym (take-append-drop i bytes) ∙ ap (λ t. take i bytes ++ t) rest))

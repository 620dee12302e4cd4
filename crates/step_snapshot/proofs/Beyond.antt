-- The names of slots behind the last name.
use Rattle.std.proofs.Common.{◌≡◌, ℕ, zero, suc, ◌+◌, ◌-◌, ◌≤◌, ◌<◌, Bool, true, false, ◌&&◌, List, [], ◌∷◌, ◌++◌, length, take, drop, get_or, nat_eq, refl, sym, ap, arith, ◌∙◌}
use Rattle.std.specs.Prelude.{bytes_eq}
use Rattle.std.specs.Cmp.{nat_eq_equiv}
use Rattle.std.proofs.Math.Dec.{eqb-suc-suc, eqb-suc-zero}
use Rattle.std.specs.List.{list_all, starts_with}
use Rattle.config_parts.specs.Names.{name_of, names_behind, zeros}

-- ---- zeros

joined : (b c d : Bool) → (b && c) && d ≡ b && (c && d)
joined true c d = refl
joined false c d = refl

swapped : (b c d : Bool) → b && (c && d) ≡ c && (b && d)
swapped true c d = refl
swapped false true d = refl
swapped false false d = refl

zero-either : (x : ℕ) → nat_eq 0 x ≡ nat_eq x 0
zero-either x = nat_eq_equiv.symm 0 x

more-zeros : (m n : ℕ) (b : Bool) → (nat_eq (suc m) (suc n) && b) ≡ (nat_eq m n && b)
more-zeros m n b = ap (λ c. c && b) (eqb-suc-suc m n)

zeros-are : (n : ℕ) (bytes : List ℕ) → bytes_eq (zeros n) bytes ≡ (nat_eq (length bytes) (suc n) && list_all (λ x. nat_eq x 0) bytes)
zeros-are zero [] = ap (λ b. b && true) (sym (zero-either 1))
zeros-are (suc n) [] = sym (ap (λ b. b && true) (zero-either (suc (suc n)) ∙ eqb-suc-zero (suc n)))
zeros-are zero (x ∷ []) = ap (λ b. b && true) (zero-either x)
zeros-are zero (x ∷ y ∷ bytes) =
    ap (λ b. b && false) (zero-either x) ∙ swapped (nat_eq x 0) false false
    ∙ sym (more-zeros (suc (length bytes)) 0 (list_all (λ x. nat_eq x 0) (x ∷ y ∷ bytes)) ∙ ap (λ c. c && list_all (λ x. nat_eq x 0) (x ∷ y ∷ bytes)) (eqb-suc-zero (length bytes)))
zeros-are (suc n) (x ∷ bytes) =
    ap (λ b. b && bytes_eq (zeros n) bytes) (zero-either x) ∙ ap (λ b. nat_eq x 0 && b) (zeros-are n bytes)
    ∙ swapped (nat_eq x 0) (nat_eq (length bytes) (suc n)) (list_all (λ x. nat_eq x 0) bytes)
    ∙ sym (more-zeros (length bytes) (suc n) (list_all (λ x. nat_eq x 0) (x ∷ bytes)))

-- ---- behind a beginning

begins : (last more name : List ℕ) → bytes_eq (last ++ more) name ≡ (bytes_eq last (take (length last) name) && bytes_eq more (drop (length last) name))
begins [] more name = refl
begins (a ∷ last) more [] = refl
begins (a ∷ last) more (x ∷ name) =
    ap (λ b. nat_eq a x && b) (begins last more name)
    ∙ sym (joined (nat_eq a x) (bytes_eq last (take (length last) name)) (bytes_eq more (drop (length last) name)))

-- ---- the last name

-- the last of names, or this one where there are none
abbrev pub last_of : List ℕ → List (List ℕ) → List ℕ
last_of before [] = before
last_of before (name ∷ names) = last_of name names

names-beyond : (before : List ℕ) (names : List (List ℕ)) (slot : ℕ) → length names ≤ slot → names_behind before names slot ≡ last_of before names ++ zeros (slot - length names)
names-beyond before [] slot order = ap (λ n. before ++ zeros n) (let e : slot ≡ slot - 0 = omega arith in e)
names-beyond before (name ∷ names) zero order = absurd (omega (arith, order))
names-beyond before (name ∷ names) (suc slot) order =
    names-beyond name names slot (omega (arith, order)) ∙ ap (λ n. last_of name names ++ zeros n) (let e : slot - length names ≡ suc slot - suc (length names) = omega arith in e)

-- the name of a slot that has one
there : (before : List ℕ) (names : List (List ℕ)) (slot : ℕ) (d : List ℕ) → slot < length names → get_or names slot d ≡ names_behind before names slot
there before [] slot d less = absurd (omega (arith, less))
there before (name ∷ names) zero d less = refl
there before (name ∷ names) (suc slot) d less = there name names slot d (omega (arith, less))

pub same-there : (names : List (List ℕ)) (slot : ℕ) (d name : List ℕ) → slot < length names → bytes_eq (get_or names slot d) name ≡ bytes_eq (name_of names slot) name
same-there names slot d name less = ap (λ x. bytes_eq x name) (there [] names slot d less)

-- the name of a slot that has none
pub same-beyond : (names : List (List ℕ)) (slot : ℕ) (name : List ℕ) → length names ≤ slot
    → (starts_with nat_eq name (last_of [] names) && (nat_eq (length (drop (length (last_of [] names)) name)) (slot - length names + 1) && list_all (λ x. nat_eq x 0) (drop (length (last_of [] names)) name)))
    ≡ bytes_eq (name_of names slot) name
same-beyond names slot name order =
    let last = last_of [] names in
    let rest = drop (length last) name in
    sym (ap (λ x. bytes_eq x name) (names-beyond [] names slot order) ∙ begins last (zeros (slot - length names)) name
    ∙ ap (λ b. bytes_eq last (take (length last) name) && b) (zeros-are (slot - length names) rest
    ∙ ap (λ n. nat_eq (length rest) n && list_all (λ x. nat_eq x 0) rest) (let e : suc (slot - length names) ≡ slot - length names + 1 = omega arith in e)))

-- the last of names is the one at the last place
last-there : (before : List ℕ) (name : List ℕ) (names : List (List ℕ)) (d : List ℕ) → last_of before (name ∷ names) ≡ get_or (name ∷ names) (length names) d
last-there before name [] d = refl
last-there before name (other ∷ names) d = last-there name other names d

pub last-at : (names : List (List ℕ)) → last_of [] names ≡ get_or names (length names - 1) []
last-at [] = refl
last-at (name ∷ names) = last-there [] name names [] ∙ ap (λ n. get_or (name ∷ names) n []) (let e : length names ≡ suc (length names) - 1 = omega arith in e)

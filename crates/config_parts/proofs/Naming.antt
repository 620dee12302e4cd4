-- Names in order make a legend.
use Rattle.std.proofs.Common.{◌≡◌, ℕ, zero, suc, ◌+◌, ◌-◌, ◌==◌, ◌<◌, Bool, true, false, List, [], ◌∷◌, ◌++◌, length, Some, slice_get, cond, nat_lt, refl, sym, ap, arith, subst, ◌∙◌}
use Rattle.std.specs.Ordering.{nat_cmp, ordering_reverse, ordering_then}
use Rattle.std.specs.declared.cmp.Ordering.{Ordering}
use Rattle.std.specs.declared.cmp.Ordering.TheVariants.{Less, Equal, Greater}
use Rattle.std.proofs.lemmas.Bool.{lt-ltb, ltb-false, ltb-true}
use Rattle.std.proofs.lemmas.Cmp.{nat_cmp_total, nat_list_cmp_total}
use Rattle.std.proofs.lemmas.List.Elements.{All-head}
use Rattle.semantics.proofs.LabelOrder.{names-alike}
use Rattle.semantics.proofs.Pairs.{pairs-head, pairs-tail}
use Rattle.semantics.specs.Entries.{name_cmp}
use Rattle.semantics.specs.Items.{Item}
use Rattle.config_parts.specs.Legend.{IsLegend}
use Rattle.config_parts.specs.Names.{AreInOrder, legend_of, name_of, names_behind, zeros}
use Rattle.config_parts.specs.Views.{AreNames}

-- ---- longer names come behind

own-reverse : (o : Ordering) → o ≡ ordering_reverse o → o ≡ Equal
own-reverse Less e = absurd (let bad = e in cc)
own-reverse Equal e = refl
own-reverse Greater e = absurd (let bad = e in cc)

number-alike : (n : ℕ) → nat_cmp n n ≡ Equal
number-alike n = own-reverse (nat_cmp n n) (nat_cmp_total.antisymm n n)

longer : (name : List ℕ) (n : ℕ) (more : List ℕ) → name_cmp name (name ++ n ∷ more) ≡ Less
longer [] n more = refl
longer (a ∷ name) n more = ap (λ o. ordering_then o (name_cmp name (name ++ n ∷ more))) (number-alike a) ∙ longer name n more

zeros-grow : (n : ℕ) → name_cmp (zeros n) (zeros (suc n)) ≡ Less
zeros-grow zero = refl
zeros-grow (suc n) = ap (λ o. ordering_then o (name_cmp (zeros n) (zeros (suc n)))) (number-alike 0) ∙ zeros-grow n

behind-grows : (name : List ℕ) (n : ℕ) → name_cmp (name ++ zeros n) (name ++ zeros (suc n)) ≡ Less
behind-grows [] n = zeros-grow n
behind-grows (a ∷ name) n = ap (λ o. ordering_then o (name_cmp (name ++ zeros n) (name ++ zeros (suc n)))) (number-alike a) ∙ behind-grows name n

-- ---- each name comes before the next

next-first : (name : List ℕ) (names : List (List ℕ)) → AreInOrder (name ∷ names) → name_cmp name (names_behind name names 0) ≡ Less
next-first name [] ordered = longer name 0 []
next-first name (other ∷ names) ordered =
    All-head (λ x. name_cmp name x ≡ Less) other names (pairs-head (λ x y. name_cmp x y ≡ Less) name (other ∷ names) ordered)

next-behind : (before : List ℕ) (names : List (List ℕ)) (slot : ℕ) → AreInOrder names → name_cmp (names_behind before names slot) (names_behind before names (suc slot)) ≡ Less
next-behind before [] slot ordered = behind-grows before slot
next-behind before (name ∷ names) zero ordered = next-first name names ordered
next-behind before (name ∷ names) (suc slot) ordered = next-behind name names slot (pairs-tail (λ x y. name_cmp x y ≡ Less) name names ordered)

-- ---- slots are in the order of their names

far : (names : List (List ℕ)) → AreInOrder names → (k slot other : ℕ) → other ≡ suc (slot + k) → name_cmp (name_of names slot) (name_of names other) ≡ Less
far names ordered zero slot other e =
    subst (λ n. name_cmp (name_of names slot) (name_of names n) ≡ Less) (let same : suc slot ≡ other = omega (arith, e) in same) (next-behind [] names slot ordered)
far names ordered (suc k) slot other e =
    subst (λ n. name_cmp (name_of names slot) (name_of names n) ≡ Less) (let same : suc (suc (slot + k)) ≡ other = omega (arith, e) in same)
    (nat_list_cmp_total.trans (name_of names slot) (name_of names (suc (slot + k))) (name_of names (suc (suc (slot + k))))
    (far names ordered k slot (suc (slot + k)) refl) (next-behind [] names (suc (slot + k)) ordered))

less-names : (names : List (List ℕ)) → AreInOrder names → (slot other : ℕ) → slot < other → name_cmp (name_of names slot) (name_of names other) ≡ Less
less-names names ordered slot other less = far names ordered (other - suc slot) slot other (omega (arith, less))

less-numbers : (slot other : ℕ) → slot < other → nat_cmp slot other ≡ Less
less-numbers slot other less = ap (λ b. cond b Less (cond (slot == other) Equal Greater)) (lt-ltb slot other less)

order-first : (b c : Bool) (names : List (List ℕ)) → AreInOrder names → (slot other : ℕ) → nat_lt slot other ≡ b → nat_lt other slot ≡ c
    → name_cmp (name_of names slot) (name_of names other) ≡ nat_cmp slot other
order-first true c names ordered slot other is not = less-names names ordered slot other (ltb-true slot other is) ∙ sym (less-numbers slot other (ltb-true slot other is))
order-first false true names ordered slot other is not =
    nat_list_cmp_total.antisymm (name_of names slot) (name_of names other)
    ∙ ap ordering_reverse (less-names names ordered other slot (ltb-true other slot not) ∙ sym (less-numbers other slot (ltb-true other slot not)))
    ∙ sym (nat_cmp_total.antisymm slot other)
order-first false false names ordered slot other is not =
    let same : slot ≡ other = omega (arith, ltb-false slot other is, ltb-false other slot not) in
    ap (λ n. name_cmp (name_of names n) (name_of names other)) same ∙ names-alike (name_of names other)
    ∙ sym (ap (λ n. nat_cmp n other) same ∙ number-alike other)

pub make_legend : (lists : List (List Item)) (names : List (List ℕ)) → AreInOrder names → IsLegend (legend_of lists names)
make_legend lists names ordered = record { ordered = λ slot other. order-first (nat_lt slot other) (nat_lt other slot) names ordered slot other refl refl }

-- ---- each slot has its name

name-there : (before : List ℕ) (names : List (List ℕ)) (slot : ℕ) → slot < length names → slice_get names slot ≡ Some (names_behind before names slot)
name-there before [] slot less = absurd (omega (arith, less))
name-there before (name ∷ names) zero less = refl
name-there before (name ∷ names) (suc slot) less = name-there name names slot (omega (arith, less))

pub are-names : (lists : List (List Item)) (names : List (List ℕ)) → AreNames (legend_of lists names) names
are-names lists names slot less = name-there [] names slot less

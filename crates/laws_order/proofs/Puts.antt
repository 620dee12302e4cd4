-- Entries by name stay in their order.
use Rattle.std.proofs.Common.{◌≡◌, ℕ, List, [], ◌∷◌, not, bytes_eq, refl, ap, ◌∙◌}
use Rattle.std.specs.List.{All}
use Rattle.std.specs.Ordering.{match_ordering, ordering_reverse}
use Rattle.std.specs.declared.cmp.Ordering.{Ordering}
use Rattle.std.specs.declared.cmp.Ordering.TheVariants.{Less, Equal, Greater}
use Rattle.std.proofs.lemmas.Cmp.{nat_list_cmp_total}
use Rattle.std.proofs.lemmas.List.Elements.{All-cons, All-head, All-nil, All-tail}
use Rattle.std.proofs.lemmas.List.Kept.{AllPairs-cons, AllPairs-filter}
use Rattle.semantics.proofs.Pairs.{All-more, pairs-head, pairs-nil, pairs-tail}
use Rattle.semantics.specs.Entries.{Entries, name_cmp, put, without}
use Rattle.semantics.specs.Order.{HasNamesInOrder}

abbrev Before : {A : Type 0} → List ℕ × A → List ℕ × A → Type 0
Before d e = name_cmp d.0 e.0 ≡ Less

-- what holds of the new entry and of those before holds of all
put-each-first : {A : Type 0} (P : List ℕ × A → Type 0) (name : List ℕ) (a : A) (e : List ℕ × A) (entries : Entries A) (o : Ordering) → P (name, a) → All P (e ∷ entries) → All P (put name a entries)
    → All P (match_ordering o ((name, a) ∷ e ∷ entries) ((name, a) ∷ entries) (e ∷ put name a entries))
put-each-first P name a e entries Less new each others = All-cons P (name, a) (e ∷ entries) new each
put-each-first P name a e entries Equal new each others = All-cons P (name, a) entries new (All-tail P e entries each)
put-each-first P name a e entries Greater new each others = All-cons P e (put name a entries) (All-head P e entries each) others

pub put-each : {A : Type 0} (P : List ℕ × A → Type 0) (name : List ℕ) (a : A) (entries : Entries A) → P (name, a) → All P entries → All P (put name a entries)
put-each P name a [] new each = All-cons P (name, a) [] new (All-nil P)
put-each P name a (e ∷ entries) new each = put-each-first P name a e entries (name_cmp name e.0) new each (put-each P name a entries new (All-tail P e entries each))

put-first : {A : Type 0} (name : List ℕ) (a : A) (e : List ℕ × A) (entries : Entries A) (o : Ordering) → name_cmp name e.0 ≡ o → HasNamesInOrder (e ∷ entries) → HasNamesInOrder (put name a entries)
    → HasNamesInOrder (match_ordering o ((name, a) ∷ e ∷ entries) ((name, a) ∷ entries) (e ∷ put name a entries))
put-first name a e entries Less is ordered others =
    AllPairs-cons Before (name, a) (e ∷ entries)
    (All-cons (Before (name, a)) e entries is
    (All-more (Before e) (Before (name, a)) (λ d less. nat_list_cmp_total.trans name e.0 d.0 is less) entries (pairs-head Before e entries ordered)))
    ordered
put-first name a e entries Equal is ordered others =
    AllPairs-cons Before (name, a) entries
    (All-more (Before e) (Before (name, a)) (λ d less. nat_list_cmp_total.congr name e.0 d.0 is ∙ less) entries (pairs-head Before e entries ordered))
    (pairs-tail Before e entries ordered)
put-first name a e entries Greater is ordered others =
    AllPairs-cons Before e (put name a entries)
    (put-each (Before e) name a entries (nat_list_cmp_total.antisymm e.0 name ∙ ap ordering_reverse is) (pairs-head Before e entries ordered))
    others

pub put-ordered : {A : Type 0} (name : List ℕ) (a : A) (entries : Entries A) → HasNamesInOrder entries → HasNamesInOrder (put name a entries)
put-ordered name a [] ordered = AllPairs-cons Before (name, a) [] (All-nil (Before (name, a))) (pairs-nil Before)
put-ordered name a (e ∷ entries) ordered = put-first name a e entries (name_cmp name e.0) refl ordered (put-ordered name a entries (pairs-tail Before e entries ordered))

pub without-ordered : {A : Type 0} (name : List ℕ) (entries : Entries A) → HasNamesInOrder entries → HasNamesInOrder (without name entries)
without-ordered name entries ordered = AllPairs-filter Before (λ e. not (bytes_eq e.0 name)) entries ordered

pub none-ordered : {A : Type 0} → HasNamesInOrder {A = A} []
none-ordered = pairs-nil Before

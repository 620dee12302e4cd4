-- Names that are put in order stay among the names.
use Rattle.std.proofs.Common.{◌≡◌, ℕ, zero, suc, ◌+◌, ◌<◌, ◌≤◌, List, [], ◌∷◌, length, get_or, refl, sym, ap, subst, ◌∙◌, arith, ◌⊎◌, inl, inr}
use Rattle.std.specs.Cmp.Lexicographic.{slice_cmp}
use Rattle.std.specs.BTreeSet.{insert_key}
use Rattle.std.specs.List.{AllByRecursion, All, Contains}
use Rattle.std.specs.List.Sorted.{IsStrictlySortedBy}
use Rattle.std.specs.Ordering.{nat_cmp, match_ordering}
use Rattle.std.specs.declared.cmp.Ordering.{Ordering}
use Rattle.std.specs.declared.cmp.Ordering.TheVariants.{Less, Equal, Greater}
use Rattle.std.proofs.lemmas.Map.Text.{is_eq-slice_cmp}
use Rattle.std.specs.Ordering.{is_eq}
use Rattle.std.proofs.lemmas.Slice.Eq.{bytes_eq-Decides}
use Rattle.std.proofs.lemmas.List.{get_or_default}
use Rattle.std.proofs.lemmas.Bool.{cases_lt}
use Rattle.std.proofs.lemmas.List.Elements.{All-nil, All-cons}
use Rattle.std.proofs.lemmas.List.Kept.{AllPairs-cons}
use Rattle.graph_numbers.specs.Names.{AreInOrder}

abbrev pub Name : Type 0
Name = List ℕ

-- ---- elements

pub here : {A : Type 0} (x : A) (xs : List A) → Contains (x ∷ xs) x
here x xs = (0, omega arith, refl)

pub behind : {A : Type 0} (x y : A) (xs : List A) → Contains xs y → Contains (x ∷ xs) y
behind x y xs (k, below, is) = (suc k, (let b : suc k < suc (length xs) = omega (arith, below) in b), is)

pub either : {A : Type 0} (x y : A) (xs : List A) → Contains (x ∷ xs) y → (x ≡ y) ⊎ Contains xs y
either x y xs (zero, below, is) = inl is
either x y xs (suc k, below, is) = inr (k, (let b : k < length xs = omega (arith, below) in b), is)

-- ---- insertion

same : (a b : Name) → slice_cmp nat_cmp a b ≡ Equal → a ≡ b
same a b is = (bytes_eq-Decides a b).0 (sym (is_eq-slice_cmp a b) ∙ ap is_eq is)

kept-first : (o : Ordering) (k x y : Name) (xs more : List Name) → Contains (x ∷ xs) y → ((Contains xs y) → Contains more y)
    → Contains (match_ordering o (k ∷ x ∷ xs) (x ∷ xs) (x ∷ more)) y
kept-first Less k x y xs more has next = behind k y (x ∷ xs) has
kept-first Equal k x y xs more has next = has
kept-first Greater k x y xs more has next =
    elim (either x y xs has) [ inl is ↦ subst (λ z. Contains (x ∷ more) z) is (here x more) | inr within ↦ behind x y more (next within) ]

pub keeps : (ks : List Name) (k y : Name) → Contains ks y → Contains (insert_key (slice_cmp nat_cmp) ks k) y
keeps [] k y (n, below, is) = absurd (let b : n < 0 = below in omega (arith, b))
keeps (x ∷ xs) k y has = kept-first (slice_cmp nat_cmp k x) k x y xs (insert_key (slice_cmp nat_cmp) xs k) has (keeps xs k y)

gained-first : (o : Ordering) (k x : Name) (xs more : List Name) → slice_cmp nat_cmp k x ≡ o → Contains more k
    → Contains (match_ordering o (k ∷ x ∷ xs) (x ∷ xs) (x ∷ more)) k
gained-first Less k x xs more is next = here k (x ∷ xs)
gained-first Equal k x xs more is next = subst (λ z. Contains (x ∷ xs) z) (sym (same k x is)) (here x xs)
gained-first Greater k x xs more is next = behind x k more next

pub gains : (ks : List Name) (k : Name) → Contains (insert_key (slice_cmp nat_cmp) ks k) k
gains [] k = here k []
gains (x ∷ xs) k = gained-first (slice_cmp nat_cmp k x) k x xs (insert_key (slice_cmp nat_cmp) xs k) refl (gains xs k)

-- ---- all that were inserted

-- the first so many of these names are there
abbrev pub HasFirst : List Name → List Name → ℕ → Type 0
HasFirst names ks n = (k : ℕ) → k < n → Contains ks (get_or names k [])

pub one-more : (names ks new : List Name) (key : Name) (n : ℕ) → HasFirst names ks n → new ≡ insert_key (slice_cmp nat_cmp) ks key → key ≡ get_or names n [] → HasFirst names new (n + 1)
one-more names ks new key n has is own k below =
    elim (cases_lt k n) [
      | inl before ↦ subst (λ l. Contains l (get_or names k [])) (sym is) (keeps ks key (get_or names k []) (has k before))
      | inr from ↦
          let last : n ≡ k = omega (arith, below, from) in
          subst (λ m. Contains new (get_or names m [])) last (subst (Contains new) own (subst (λ l. Contains l key) (sym is) (gains ks key)))
    ]

pub all-there : (names ks : List Name) (n : ℕ) → HasFirst names ks n → length names ≤ n → (name : Name) → Contains names name → Contains ks name
all-there names ks n has most name (k, below, is) =
    subst (Contains ks) (get_or_default names k [] name below ∙ is) (has k (omega (arith, below, most)))

-- ---- the order

all-of : {A : Type 0} (P : A → Type 0) (xs : List A) → AllByRecursion P xs → All P xs
all-of P [] all = All-nil P
all-of P (x ∷ xs) all = All-cons P x xs all.0 (all-of P xs all.1)

none-in-order : AreInOrder []
none-in-order i j d less below = absurd (let b : j < 0 = below in omega (arith, b))

pub in-order : (ks : List Name) → IsStrictlySortedBy (slice_cmp nat_cmp) ks → AreInOrder ks
unfolding IsStrictlySortedBy
in-order [] sorted = none-in-order
in-order (k ∷ ks) sorted = AllPairs-cons (λ a b. slice_cmp nat_cmp a b ≡ Less) k ks (all-of (λ b. slice_cmp nat_cmp k b ≡ Less) ks sorted.0) (in-order ks sorted.1)

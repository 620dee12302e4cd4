-- What a binary search finds among names in the order of their bytes.
use Rattle.std.proofs.Common.{◌≡◌, ℕ, ◌<◌, ◌≤◌, List, length, get_or, Some, slice_get, refl, sym, ap, arith, subst, ◌∙◌, ⊎_elim}
use Rattle.std.specs.Prelude.{Contains}
use Rattle.std.specs.List.{AllPairs}
use Rattle.std.specs.List.Sorted.{IsNonDecreasingBy, IsPartitionPoint}
use Rattle.std.specs.Ordering.{is_eq, nat_cmp, ordering_index, ordering_reverse}
use Rattle.std.specs.Cmp.Lexicographic.{slice_cmp, texts_ties}
use Rattle.std.specs.declared.cmp.Ordering.{Ordering}
use Rattle.std.specs.declared.cmp.Ordering.TheVariants.{Less, Equal, Greater}
use Rattle.std.proofs.lemmas.Bool.{cases_lt}
use Rattle.std.proofs.lemmas.Cmp.{nat_list_cmp_total}
use Rattle.std.proofs.lemmas.Option.{slice_get-get_or}
use Rattle.std.proofs.lemmas.Slice.Eq.{bytes_eq-Decides}
use Rattle.semantics.proofs.LabelOrder.{names-alike}

-- where one name comes before another, it compares with a third no higher
no-higher : (a b name : List ℕ) (o p : Ordering) → slice_cmp nat_cmp a b ≡ Less → slice_cmp nat_cmp a name ≡ o → slice_cmp nat_cmp b name ≡ p → ordering_index o ≤ ordering_index p
no-higher a b name Less p before one other = omega arith
no-higher a b name Equal Less before one other =
    absurd (let bad = sym (nat_list_cmp_total.trans a b name before other) ∙ one in cc)
no-higher a b name Equal Equal before one other = omega arith
no-higher a b name Equal Greater before one other = omega arith
no-higher a b name Greater Less before one other =
    absurd (let bad = sym (nat_list_cmp_total.trans a b name before other) ∙ one in cc)
no-higher a b name Greater Equal before one other =
    absurd (let bad = ap ordering_reverse (sym before) ∙ sym (nat_list_cmp_total.antisymm b a) ∙ nat_list_cmp_total.congr b name a other ∙ nat_list_cmp_total.antisymm name a ∙ ap ordering_reverse one in cc)
no-higher a b name Greater Greater before one other = omega arith

names-rise : (names : List (List ℕ)) (name : List ℕ) → AllPairs (λ a b. slice_cmp nat_cmp a b ≡ Less) names → IsNonDecreasingBy (λ a. ordering_index (slice_cmp nat_cmp a name)) names
names-rise names name ordered i j d order within =
    ⊎_elim
    (λ less. no-higher (get_or names i d) (get_or names j d) name (slice_cmp nat_cmp (get_or names i d) name) (slice_cmp nat_cmp (get_or names j d) name) (ordered i j d less within) refl refl)
    (λ least. let same : i ≡ j = omega arith in subst (λ k. ordering_index (slice_cmp nat_cmp (get_or names i d) name) ≤ ordering_index (slice_cmp nat_cmp (get_or names k d) name)) same (omega arith))
    (cases_lt i j)

-- a name that is there compares as equal, so there is no place between lower and higher ones
no-place : (names : List (List ℕ)) (name : List ℕ) (at : ℕ) → IsPartitionPoint (λ a. slice_cmp nat_cmp a name ≡ Less) (λ a. slice_cmp nat_cmp a name ≡ Greater) names at → Contains names name → ⊥
no-place names name at parts (k, within, is) =
    ⊎_elim
    (λ less. let low = parts.0 k name (omega arith) less in let bad = sym (names-alike name) ∙ sym (ap (λ a. slice_cmp nat_cmp a name) is) ∙ low in cc)
    (λ more. let high = parts.1 k name more within in let bad = sym (names-alike name) ∙ sym (ap (λ a. slice_cmp nat_cmp a name) is) ∙ high in cc)
    (cases_lt k at)

pub missing-name : (names : List (List ℕ)) (name : List ℕ) (at : ℕ) → AllPairs (λ a b. slice_cmp nat_cmp a b ≡ Less) names
    → (IsNonDecreasingBy (λ a. ordering_index (slice_cmp nat_cmp a name)) names → IsPartitionPoint (λ a. slice_cmp nat_cmp a name ≡ Less) (λ a. slice_cmp nat_cmp a name ≡ Greater) names at)
    → ¬ Contains names name
missing-name names name at ordered place = no-place names name at (place (names-rise names name ordered))

pub found-name : (names : List (List ℕ)) (name : List ℕ) (at : ℕ) → at < length names → ((d : List ℕ) → slice_cmp nat_cmp (get_or names at d) name ≡ Equal) → slice_get names at ≡ Some name
found-name names name at within equal =
    slice_get-get_or names at name within
    ∙ ap Some ((bytes_eq-Decides (get_or names at name) name).0 (texts_ties (get_or names at name) name ∙ ap is_eq (equal name)))

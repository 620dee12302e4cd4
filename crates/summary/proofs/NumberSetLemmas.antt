-- Lists of numbers as sets.
use Rattle.std.proofs.Common.{◌≡◌, ℕ, Bool, true, false, List, [], ◌∷◌, ◌++◌, sym, refl, ap, ◌∙◌, length, take, get_or, ◌<◌, ◌+◌, arith}
use Rattle.std.specs.Prelude.{◌||◌, nat_eq}
use Rattle.std.specs.List.{list_any}
use Rattle.std.specs.Ordering.{nat_cmp, eq_by_cmp}
use Rattle.std.specs.Cmp.{nat_cmp_total}
use Rattle.std.specs.FinSet.{FinSet, insert, union, contains, from_list_push, same_set, contains-union, contains-insert, contains-empty, contains-from_list_nat, nat_cmp-IsAntisymmetric}
use Rattle.std.proofs.lemmas.List.{take_more}
use Rattle.std.proofs.lemmas.Bool.Decides.{nat_tests}
use Rattle.summary.specs.NumberSet.{number_set}

same : (s t : FinSet nat_cmp) → ((q : ℕ) → contains s q ≡ contains t q) → s ≡ t
same = same_set nat_cmp_total nat_cmp-IsAntisymmetric

or-false : (a : Bool) → (a || false) ≡ a
or-false true = refl
or-false false = refl

or-swap : (a b c : Bool) → (a || (b || c)) ≡ (b || (a || c))
or-swap true true c = refl
or-swap true false c = refl
or-swap false b c = refl

-- a number at the end is a number more
pub pushed : (numbers : List ℕ) (number : ℕ) → number_set (numbers ++ number ∷ []) ≡ insert (number_set numbers) number
pushed = from_list_push nat_cmp_total nat_cmp-IsAntisymmetric

tie_is : (q k : ℕ) → eq_by_cmp nat_cmp q k ≡ true → q ≡ k
tie_is q k h = grind (arith, nat_tests)

absorbs : (a b : Bool) → (a ≡ true → b ≡ true) → b ≡ (a || b)
absorbs true b f = f refl
absorbs false b f = refl

-- a number that is there already changes nothing
pub again : (numbers : List ℕ) (number : ℕ) → list_any (λ y. nat_eq y number) numbers ≡ true → number_set numbers ≡ insert (number_set numbers) number
again numbers number h = same _ _ (λ q.
    absorbs (eq_by_cmp nat_cmp q number) (contains (number_set numbers) q) (λ tie. ap (contains (number_set numbers)) (tie_is q number tie) ∙ contains-from_list_nat numbers number ∙ h)
    ∙ sym (contains-insert nat_cmp_total (number_set numbers) number q))

-- nothing more
pub union-none : (s : FinSet nat_cmp) → s ≡ union s (number_set [])
union-none s = same _ _ (λ q. sym (contains-union nat_cmp_total s _ q ∙ ap (λ b. contains s q || b) (contains-empty nat_cmp q) ∙ or-false _))

union-insert : (s t : FinSet nat_cmp) (k : ℕ) → insert (union s t) k ≡ union s (insert t k)
union-insert s t k = same _ _ (λ q.
    contains-insert nat_cmp_total (union s t) k q ∙ ap (λ b. eq_by_cmp nat_cmp q k || b) (contains-union nat_cmp_total s t q)
    ∙ or-swap (eq_by_cmp nat_cmp q k) (contains s q) (contains t q)
    ∙ sym (contains-union nat_cmp_total s _ q ∙ ap (λ b. contains s q || b) (contains-insert nat_cmp_total t k q)))

-- one number more of the list
pub union-more : (s : FinSet nat_cmp) (numbers : List ℕ) (i d : ℕ) → i < length numbers → insert (union s (number_set (take i numbers))) (get_or numbers i d) ≡ union s (number_set (take (i + 1) numbers))
union-more s numbers i d h = union-insert s _ _ ∙ ap (union s) (sym (ap number_set (take_more numbers i d h) ∙ pushed _ _))

-- Sets of numbers.
use Rattle.std.specs.Prelude.{◌≡◌, ℕ, Bool, true, false, ◌||◌, List, Option, None, Some}
use Rattle.std.proofs.Common.{sym, refl, ap, ◌∙◌}
use Rattle.std.specs.Ordering.{nat_cmp}
use Rattle.std.specs.Cmp.{nat_cmp_total}
use Rattle.std.specs.FinSet.{FinSet, from_list, empty, insert, union, contains, same_set, contains-union, contains-empty, nat_cmp-IsAntisymmetric}
use Rattle.summary.specs.Sums.{Join, IsSemilattice}

-- the numbers of a list
abbrev pub number_set : List ℕ → FinSet nat_cmp
number_set numbers = from_list numbers

-- the number, if there is one
abbrev pub numbers_of : Option ℕ → FinSet nat_cmp
numbers_of None = empty
numbers_of (Some number) = insert empty number

-- sets of numbers joined by their union, from the empty set on
abbrev pub union_join : Join (FinSet nat_cmp)
union_join = record { none = empty; join = union }

or_assoc : (a b c : Bool) → ((a || b) || c) ≡ (a || (b || c))
or_assoc true b c = refl
or_assoc false b c = refl

or_comm : (a b : Bool) → (a || b) ≡ (b || a)
or_comm true true = refl
or_comm true false = refl
or_comm false true = refl
or_comm false false = refl

or_idem : (a : Bool) → (a || a) ≡ a
or_idem true = refl
or_idem false = refl

same : (s t : FinSet nat_cmp) → ((q : ℕ) → contains s q ≡ contains t q) → s ≡ t
same = same_set nat_cmp_total nat_cmp-IsAntisymmetric

has : (s t : FinSet nat_cmp) (q : ℕ) → contains (union s t) q ≡ (contains s q || contains t q)
has = contains-union nat_cmp_total

pub union_semilattice : IsSemilattice union_join
union_semilattice = record {
  associates = λ x y z. same _ _ (λ q. has (union x y) z q ∙ ap (λ b. b || contains z q) (has x y q) ∙ or_assoc (contains x q) (contains y q) (contains z q) ∙ sym (has x (union y z) q ∙ ap (λ b. contains x q || b) (has y z q)));
  commutes = λ x y. same _ _ (λ q. has x y q ∙ or_comm (contains x q) (contains y q) ∙ sym (has y x q));
  repeats = λ x. same _ _ (λ q. has x x q ∙ or_idem (contains x q));
  unit = λ x. same _ _ (λ q. has empty x q ∙ ap (λ b. b || contains x q) (contains-empty nat_cmp q));
}

-- The points of a plane of three by three, from the first one down and to the right.
use Rattle.std.specs.Prelude.{◌≡◌, ◌==◌, ℕ, ◌+◌, ◌%◌, ◌<◌, ◌≤◌, nat_lt, Bool, List, [], ◌∷◌, None, Some, if◌then◌else◌, AllPairs, Contains, IfSome, get_or}
use Rattle.std.proofs.Common.{zero, suc, refl, arith, true, false, cond}
use Rattle.std.proofs.lemmas.Bool.Decides.{nat_tests}
use Rattle.std.specs.Ordering.{nat_cmp}
use Rattle.std.specs.declared.cmp.Ordering.TheVariants.{Less}
use Rattle.summary.specs.Graph.{Graph}

-- label 0 where it leads further down, and label 1 where it leads further to the right
abbrev pub ways : Bool → Bool → List ℕ
ways true true = 0 ∷ 1 ∷ []
ways true false = 0 ∷ []
ways false true = 1 ∷ []
ways false false = []

-- a point is three times its row, and its column; the last one has mark 0
abbrev pub plane : Graph ℕ ℕ
plane = record {
  first = 0;
  enabled = λ s. ways (nat_lt s 6) (nat_lt (s % 3) 2);
  after = λ s l. if l == 0 then s + 3 else s + 1;
  mark = λ s. if s == 8 then Some 0 else None;
}

pub plane_same : (s t : ℕ) → (s == t) ≡ true → s ≡ t
plane_same s t h = grind (arith, nat_tests)

ways_ascend : (down right : Bool) → AllPairs (λ l m. nat_cmp l m ≡ Less) (ways down right)
ways_ascend true true i j d h k = go i j h k
  where
    go : (i j : ℕ) → suc i ≤ j → suc j ≤ 2 → nat_cmp (get_or (0 ∷ 1 ∷ []) i d) (get_or (0 ∷ 1 ∷ []) j d) ≡ Less
    go zero zero h k = absurd (omega arith)
    go zero (suc zero) h k = refl
    go zero (suc (suc j)) h k = absurd (omega arith)
    go (suc i) zero h k = absurd (omega arith)
    go (suc i) (suc zero) h k = absurd (omega arith)
    go (suc i) (suc (suc j)) h k = absurd (omega arith)
ways_ascend true false i j d h k = absurd (omega arith)
ways_ascend false true i j d h k = absurd (omega arith)
ways_ascend false false i j d h k = absurd (omega arith)

pub plane_ascends : (s : ℕ) → AllPairs (λ l m. nat_cmp l m ≡ Less) (plane.enabled s)
plane_ascends s = ways_ascend (nat_lt s 6) (nat_lt (s % 3) 2)

pub plane_first : plane.first < 9
plane_first = omega arith

pub plane_after : (s l : ℕ) → s < 9 → Contains (plane.enabled s) l → plane.after s l < 9
plane_after s l f c = grind (arith, nat_tests)

pub plane_mark : (s : ℕ) → IfSome (plane.mark s) (λ mark. mark < 8)
plane_mark s = small (s == 8)
  where
    small : (b : Bool) → IfSome (cond b (Some 0) None) (λ mark. mark < 8)
    small true = omega arith
    small false = tt

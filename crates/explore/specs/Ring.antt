-- A ring of numbered states as a system, and what is summed up of it.
use Rattle.std.specs.Prelude.{◌≡◌, ◌==◌, ℕ, ◌+◌, ◌*◌, ◌%◌, ◌<◌, ◌≤◌, [], ◌∷◌, None, Some, if◌then◌else◌, AllPairs, IfSome, get_or}
use Rattle.std.proofs.Common.{zero, suc, refl, arith, true, false, Bool, cond}
use Rattle.std.proofs.lemmas.Bool.Decides.{nat_tests}
use Rattle.std.specs.Ordering.{nat_cmp}
use Rattle.std.specs.declared.cmp.Ordering.TheVariants.{Less}
use Rattle.summary.specs.Graph.{Graph}

-- a ring of states: from 0 on, by label 0 to the next state and by label 1 to the one of twice the number; the last one has mark 0
abbrev pub ring : ℕ → Graph ℕ ℕ
ring size = record {
  first = 0;
  enabled = λ s. 0 ∷ 1 ∷ [];
  after = λ s l. if l == 0 then (s + 1) % size else (2 * s) % size;
  mark = λ s. if s + 1 == size then Some 0 else None;
}

pub ring_same : (s t : ℕ) → (s == t) ≡ true → s ≡ t
ring_same s t h = grind (arith, nat_tests)

pub ring_ascends : AllPairs (λ l m. nat_cmp l m ≡ Less) (0 ∷ 1 ∷ [])
ring_ascends i j d = go i j
  where
    go : (i j : ℕ) → suc i ≤ j → suc j ≤ 2 → nat_cmp (get_or (0 ∷ 1 ∷ []) i d) (get_or (0 ∷ 1 ∷ []) j d) ≡ Less
    go zero zero h k = absurd (omega arith)
    go zero (suc zero) h k = refl
    go zero (suc (suc j)) h k = absurd (omega arith)
    go (suc i) zero h k = absurd (omega arith)
    go (suc i) (suc zero) h k = absurd (omega arith)
    go (suc i) (suc (suc j)) h k = absurd (omega arith)

below : (b : Bool) (x y size : ℕ) → 1 ≤ size → cond b (x % size) (y % size) < size
below true x y size h = omega arith
below false x y size h = omega arith

pub ring_after : (size s l : ℕ) → 1 ≤ size → (ring size).after s l < size
ring_after size s l h = below (l == 0) (s + 1) (2 * s) size h

pub ring_mark : (size s : ℕ) → IfSome ((ring size).mark s) (λ mark. mark < 8)
ring_mark size s = small (s + 1 == size)
  where
    small : (b : Bool) → IfSome (cond b (Some 0) None) (λ mark. mark < 8)
    small true = omega arith
    small false = tt

-- A system whose start leads to two states that lead nowhere.
use Rattle.std.specs.Prelude.{◌≡◌, ◌==◌, ℕ, ◌≤◌, [], ◌∷◌, None, if◌then◌else◌, AllPairs, get_or}
use Rattle.std.proofs.Common.{zero, suc, refl, arith, true, false, Bool, cond}
use Rattle.std.proofs.lemmas.Bool.Decides.{nat_tests}
use Rattle.std.specs.Ordering.{nat_cmp}
use Rattle.std.specs.declared.cmp.Ordering.TheVariants.{Less}
use Rattle.summary.specs.Graph.{Graph}

-- state 0 is the start; label 1 leads to state 1, label 2 to state 2
abbrev pub fork : {C : Type 0} → (ℕ → C) → (C → ℕ) → Graph C ℕ
fork make number = record {
  first = make 0;
  enabled = λ s. if number s == 0 then 1 ∷ 2 ∷ [] else [];
  after = λ s l. make l;
  mark = λ s. None;
}

pub same_number : (s t : ℕ) → (s == t) ≡ true → s ≡ t
same_number s t h = grind (arith, nat_tests)

pub fork_ascends : (b : Bool) → AllPairs (λ l m. nat_cmp l m ≡ Less) (cond b (1 ∷ 2 ∷ []) [])
fork_ascends false i j d h k = absurd (omega arith)
fork_ascends true i j d h k = go i j h k
  where
    go : (i j : ℕ) → suc i ≤ j → suc j ≤ 2 → nat_cmp (get_or (1 ∷ 2 ∷ []) i d) (get_or (1 ∷ 2 ∷ []) j d) ≡ Less
    go zero zero h k = absurd (omega arith)
    go zero (suc zero) h k = refl
    go zero (suc (suc j)) h k = absurd (omega arith)
    go (suc i) zero h k = absurd (omega arith)
    go (suc i) (suc zero) h k = absurd (omega arith)
    go (suc i) (suc (suc j)) h k = absurd (omega arith)

-- Sums over what all seats know, and how often a list has a number.
use Rattle.std.specs.Prelude.{ℕ, ◌<◌, List, ◌==◌, sum_by, count_by}

-- f of each view, added up
abbrev pub total : {V : Type 0} → (V → ℕ) → List V → ℕ
total f views = sum_by f views

-- how often x stands in the list
abbrev pub times : ℕ → List ℕ → ℕ
times x xs = count_by (λ y. y == x) xs

-- x is one of the list
abbrev pub Stands : ℕ → List ℕ → Type 0
Stands x xs = 0 < times x xs

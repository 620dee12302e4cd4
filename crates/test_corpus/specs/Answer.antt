-- Which answers are wanted.
use Rattle.std.specs.Prelude.{◌≡◌, ℕ, List, ◌++◌, ◌⊎◌, codes}

-- the answer is equal to what is wanted, or it is that and a place behind it
abbrev pub IsWanted : List ℕ → List ℕ → Type 0
IsWanted answer wanted = (answer ≡ wanted) ⊎ ((place : List ℕ) × (answer ≡ wanted ++ (codes " at " ++ place)))

-- Items that come with branches, which get their numbers.
use Rattle.std.specs.Prelude.{ℕ, suc, List, [], ◌∷◌, Option}
use Rattle.search_ordinals.specs.declared.ordinal.Ordinal.{Ordinal}

-- an ordinal in place of each branch, where the first one's number is known
abbrev pub numbered : {A B : Type 0} → ℕ → List (Option B × A) → List (Ordinal B × A)
numbered n [] = []
numbered n (pair ∷ pairs) = (record { nth = n; branch = pair.0 }, pair.1) ∷ numbered (suc n) pairs

-- The names that have slots.
use Rattle.std.specs.Prelude.{ℕ, List, Contains}

-- a name has a slot, where these names have
abbrev pub IsKnown : List (List ℕ) → List ℕ → Type 0
IsKnown names name = ¬ (¬ Contains names name)

-- no name of the second list is without a slot, where the names of the first list have slots
abbrev pub NoneIsMissing : List (List ℕ) → List (List ℕ) → Type 0
NoneIsMissing names of = (name : List ℕ) → Contains of name → IsKnown names name

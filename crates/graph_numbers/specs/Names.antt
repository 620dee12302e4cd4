-- Names in the order of their bytes.
use Rattle.std.specs.Prelude.{◌≡◌, ℕ, List, AllPairs}
use Rattle.std.specs.Cmp.Lexicographic.{slice_cmp}
use Rattle.std.specs.Ordering.{nat_cmp}
use Rattle.std.specs.declared.cmp.Ordering.TheVariants.{Less}

-- each name comes before those behind it: a beginning before what is longer
abbrev pub AreInOrder : List (List ℕ) → Type 0
AreInOrder names = AllPairs (λ name other. slice_cmp nat_cmp name other ≡ Less) names

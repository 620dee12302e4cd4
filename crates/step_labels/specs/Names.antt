-- The order of names and of the paths of components.
use Rattle.std.specs.Prelude.{ℕ, List}
use Rattle.std.specs.Cmp.{IsTotalOrder, on_total}
use Rattle.std.specs.Cmp.Lexicographic.{nat_list_cmp_total, slice_cmp}
use Rattle.std.specs.FinSet.{IsAntisymmetric, nat_cmp-IsAntisymmetric, slice_cmp-IsAntisymmetric}
use Rattle.std.specs.Ordering.{nat_cmp}
use Rattle.std.specs.declared.cmp.Ordering.{Ordering}
use Rattle.value_types.specs.declared.path.Path.{Path}

-- the order of names, and of other lists of numbers: number by number, a beginning before what is longer
abbrev pub name_cmp : List ℕ → List ℕ → Ordering
name_cmp = slice_cmp nat_cmp

-- paths in their order: number by number, a beginning before its extensions
abbrev pub path_cmp : Path → Path → Ordering
path_cmp p q = name_cmp p.numbers q.numbers

-- ---- a total order, which tells different paths apart

pub path_total : IsTotalOrder path_cmp
path_total = on_total (λ p. p.numbers) nat_list_cmp_total

pub path_one : IsAntisymmetric path_cmp
path_one p q tie = λ i. record { numbers = slice_cmp-IsAntisymmetric nat_cmp-IsAntisymmetric p.numbers q.numbers tie i }

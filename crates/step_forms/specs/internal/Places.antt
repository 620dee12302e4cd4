-- What stands at positions.
use Rattle.std.specs.Prelude.{ℕ, List, [], ◌∷◌, get_or}
use Rattle.semantics.specs.Items.{Item}
use Rattle.semantics.specs.Sites.{Site}
use Rattle.step_snapshot.specs.declared.test_case.TestCase.{TestCase}
use Rattle.graph_items.specs.Begun.{site_of_list}

-- the list at a position
abbrev pub list_at : TestCase → ℕ → List Item
list_at t position = get_or t.graphs.lists position []

-- the site of the first item there
abbrev pub site_at : TestCase → ℕ → Site
site_at t position = site_of_list (list_at t position)

-- a list without its first element
abbrev pub behind_first : {A : Type 0} → List A → List A
behind_first [] = []
behind_first (x ∷ xs) = xs

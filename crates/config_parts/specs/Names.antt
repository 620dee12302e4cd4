-- The legend of lists by their positions and names by their slots.
use Rattle.std.specs.Prelude.{◌≡◌, ℕ, zero, suc, List, [], ◌∷◌, ◌++◌, AllPairs, get_or}
use Rattle.std.specs.declared.cmp.Ordering.TheVariants.{Less}
use Rattle.semantics.specs.Entries.{name_cmp}
use Rattle.semantics.specs.Items.{Item}
use Rattle.config_parts.specs.Legend.{Legend}

-- the number 0, one more time than this
abbrev pub zeros : ℕ → List ℕ
zeros zero = 0 ∷ []
zeros (suc n) = 0 ∷ zeros n

-- the names in turn, and behind the last one longer and longer ones
abbrev pub names_behind : List ℕ → List (List ℕ) → ℕ → List ℕ
names_behind before [] slot = before ++ zeros slot
names_behind before (name ∷ names) zero = name
names_behind before (name ∷ names) (suc slot) = names_behind name names slot

-- the name of a slot: beyond the last name there is one that comes behind all before
abbrev pub name_of : List (List ℕ) → ℕ → List ℕ
name_of names slot = names_behind [] names slot

-- the legend of these lists and names
abbrev pub legend_of : List (List Item) → List (List ℕ) → Legend
legend_of lists names = record { lists = λ position. get_or lists position []; names = name_of names }

-- names in the order of their bytes, none twice
abbrev pub AreInOrder : List (List ℕ) → Type 0
AreInOrder names = AllPairs (λ name other. name_cmp name other ≡ Less) names

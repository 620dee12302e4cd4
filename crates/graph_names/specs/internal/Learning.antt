-- Names that are added one by one, each once.
use Rattle.std.specs.Prelude.{ℕ, List, [], ◌∷◌, ◌++◌, Some, bytes_eq, if◌then◌else◌}
use Rattle.std.specs.List.{flat_map, list_any}
use Rattle.ttcn_syntax.specs.declared.tree.definition.Definition.{Definition}
use Rattle.semantics.specs.Items.{Item, action_of}
use Rattle.graph_items.specs.Standing.{part_of}
use Rattle.graph_items.specs.declared.first.First.{First}
use Rattle.graph_items.specs.declared.first.First.TheVariants as first
use Rattle.graph_names.specs.Known.{Known, names_of, names_of_kind, names_of_part}

-- names with one more, unless it is among them
abbrev pub with_name : Known → List ℕ → Known
with_name names name = if list_any (bytes_eq name) names then names else (names ++ name ∷ [])

-- names with more
abbrev pub with_names : Known → Known → Known
with_names names [] = names
with_names names (name ∷ more) = with_names (with_name names name) more

-- the names in the item that stands first
abbrev pub names_of_first : First → Known
names_of_first (first.Doing behaviour s part) = names_of_part (action_of s.now) (part_of part)
names_of_first (first.Mark s) = []
names_of_first (first.Waiting target) = target.now.reference.name ∷ []

abbrev pub names_of_definition : Definition → Known
names_of_definition definition = names_of_kind (Some definition.kind)

-- the names in the first items of lists and in definitions, each once
abbrev pub all_names : List Definition → List (List Item) → Known
all_names definitions lists = with_names (with_names [] (flat_map names_of lists)) (flat_map names_of_definition definitions)

-- Items whose sites have a position among so many lists of declared names.
use Rattle.std.specs.Prelude.{ℕ, ◌<◌, List, [], ◌∷◌, get_or}
use Rattle.graph_items.specs.declared.item.Item.{Item}
use Rattle.graph_items.specs.declared.item.Item.TheVariants as item

abbrev pub IsWithin : ℕ → Item → Type 0
IsWithin n (item.Doing site s part) = site.declared < n
IsWithin n (item.Mark site s) = site.declared < n
IsWithin n (item.Waiting target) = Unit {0}

abbrev pub AreWithin : ℕ → List Item → Type 0
AreWithin n [] = Unit {0}
AreWithin n (i ∷ items) = IsWithin n i × AreWithin n items

abbrev pub AreAllWithin : ℕ → List (List Item) → Type 0
AreAllWithin n lists = (p : ℕ) → AreWithin n (get_or lists p [])

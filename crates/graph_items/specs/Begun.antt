-- What stands first in a list of what remains.
use Rattle.std.specs.Prelude.{◌≡◌, List, [], ◌∷◌}
use Rattle.semantics.specs.Items.{Doing, Item, Mark, Waiting}
use Rattle.semantics.specs.Sites.{Site, beginning}
use Rattle.graph_items.specs.Standing.{part_of, target_of}
use Rattle.graph_items.specs.declared.first.First.{First}
use Rattle.graph_items.specs.declared.first.First.TheVariants as first

-- the site of the first of remaining items, if it has one
abbrev pub site_of_list : List Item → Site
site_of_list [] = beginning 0
site_of_list (Doing site s part ∷ rest) = site
site_of_list (Mark site s ∷ rest) = site
site_of_list (Waiting target ∷ rest) = beginning 0

-- what code says of a first item, at its site
abbrev pub item_at : Site → First → Item
item_at site (first.Doing behaviour s part) = Doing site s.now (part_of part)
item_at site (first.Mark s) = Mark site s.now
item_at site (first.Waiting target) = Waiting (target_of target.now)

-- a part of a statement stands in the behaviour that code names with it
abbrev pub StandsIn : Site → First → Type 0
StandsIn site (first.Doing behaviour s part) = site.behaviour ≡ behaviour
StandsIn site (first.Mark s) = Unit {0}
StandsIn site (first.Waiting target) = Unit {0}

-- a list has this first, and the rest behind it
pub record IsBegunBy (list : List Item) (found : First) (rest : List Item) : Type 0 where
  pub item : list ≡ item_at (site_of_list list) found ∷ rest
  pub behaviour : StandsIn (site_of_list list) found

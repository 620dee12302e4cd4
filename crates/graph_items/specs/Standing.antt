-- What code's items stand for among the items of the rules.
use Rattle.std.specs.Prelude.{List, [], map, get_or}
use Rattle.check_scope.specs.Names.{Entry}
use Rattle.semantics.specs.Items as rules
use Rattle.semantics.specs.Sites as sites
use Rattle.graph_items.specs.declared.item.Item.{Item}
use Rattle.graph_items.specs.declared.item.Item.TheVariants as item
use Rattle.graph_items.specs.declared.item.Part.{Part}
use Rattle.graph_items.specs.declared.item.Part.TheVariants as part
use Rattle.graph_items.specs.declared.item.Site.{Site}
use Rattle.graph_items.specs.declared.item.Target.{Target}

-- what a part of a statement stands for
abbrev pub part_of : Part → rules.Part
part_of part.Whole = rules.Whole
part_of (part.Name k) = rules.Name k
part_of (part.From k) = rules.From k
part_of part.Start = rules.Start
part_of part.Loop = rules.Loop
part_of part.Last = rules.Last

-- a site, where these are the lists of declared names
abbrev pub site_of : List (List Entry) → Site → sites.Site
site_of lists site = record { behaviour = site.behaviour; declared = get_or lists site.declared [] }

-- what a target stands for
abbrev pub target_of : Target → rules.Target
target_of target = record { own = target.own; reference = target.reference; data_type = target.data_type }

-- what an item stands for, where these are the lists of declared names
abbrev pub item_of : List (List Entry) → Item → rules.Item
item_of lists (item.Doing site s part) = rules.Doing (site_of lists site) s (part_of part)
item_of lists (item.Mark site s) = rules.Mark (site_of lists site) s
item_of lists (item.Waiting target) = rules.Waiting (target_of target)

-- a list of what remains
abbrev pub remaining_of : List (List Entry) → List Item → List rules.Item
remaining_of lists items = map (item_of lists) items

-- Items that are equal feed a hasher alike.
use Rattle.std.proofs.Common.{◌≡◌, true, ap}
use Rattle.graph_items.specs.ItemEquality.{item_one}
use Rattle.graph_items.specs.ItemHash.{writes_of}
use Rattle.graph_items.specs.contracts.item.ItemPartialEq.TheImpl as items
use Rattle.graph_items.specs.declared.item.Item.{Item}

pub item_fed : (a b : Item) → (items.ghosts).eq a b ≡ true → writes_of a ≡ writes_of b
item_fed a b h = ap writes_of (item_one a b h)

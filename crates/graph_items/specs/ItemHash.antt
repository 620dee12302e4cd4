-- What an item feeds a hasher: the place of its statement and its part, or the name that waits.
use Rattle.std.specs.Prelude.{[], ◌∷◌, ◌++◌}
use Rattle.std.specs.Hash as fed
use Rattle.ttcn_syntax.specs.contracts.place.SpanHash.TheImpl as places
use Rattle.ttcn_syntax.specs.declared.tree.statement.Statement.{out-Statement}
use Rattle.graph_items.specs.contracts.item.PartHash.TheImpl as parts
use Rattle.graph_items.specs.declared.item.Item.{Item}
use Rattle.graph_items.specs.declared.item.Item.TheVariants as item

-- what an item feeds a hasher: a mark feeds the place of its statement alone
abbrev pub writes_of : Item → fed.HashWrites
writes_of (item.Doing site s part) = (places.ghosts).hash_input (out-Statement s).place ++ (parts.ghosts).hash_input part
writes_of (item.Mark site s) = (places.ghosts).hash_input (out-Statement s).place
writes_of (item.Waiting target) = target.reference.name ∷ []

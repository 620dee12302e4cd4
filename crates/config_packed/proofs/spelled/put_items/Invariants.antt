use Rattle.std.proofs.Common.{◌≡◌, ◌++◌, take}
use Rattle.std.specs.List.{flat_map}
use Rattle.config_packed.proofs.spelled.put_items.Given as goal

-- the items so far are spelled
abbrev pub invariant-loop-item : goal.invariant-loop-item
invariant-loop-item g l = l.bytes.items ≡ l.initial.bytes.items ++ flat_map g.T.Spelled.spell (take l.item-index l.items)

use Rattle.std.proofs.Common.{◌≡◌, ◌-◌}
use Rattle.config_packed.specs.Reading.{read_items}
use Rattle.config_packed.proofs.Items.{ahead}
use Rattle.config_packed.proofs.spelled.take_items.Given as goal

-- all items are those so far, and then those that are left
abbrev pub invariant-loop-turn : goal.invariant-loop-turn
invariant-loop-turn g l = read_items g.T.Spelled.read l.count l.initial.reader ≡ ahead l.items.items (read_items g.T.Spelled.read (l.count - l._turn) l.reader)

use Rattle.std.proofs.Common.{◌≡◌, ◌-◌}
use Rattle.config_packed.specs.Reading.{read_items}
use Rattle.config_packed.proofs.skip.skip_items.Given as goal

-- behind all items is where it is behind those that are left
abbrev pub invariant-loop-turn : goal.invariant-loop-turn
invariant-loop-turn g l = (read_items g.T.Spelled.read l.count l.initial.reader).1 ≡ (read_items g.T.Spelled.read (l.count - l._turn) l.reader).1

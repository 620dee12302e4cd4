use Rattle.std.proofs.Common.{◌≡◌, ◌-◌, map}
use Rattle.config_packed.specs.internal.Cuts.{cut_content}
use Rattle.config_packed.specs.Pieces.{bytes_of}
use Rattle.config_packed.specs.Reading.{read_items}
use Rattle.config_packed.proofs.Items.{ahead}
use Rattle.config_packed.proofs.pieces.take_components.Given as goal

-- the parts of all components are those so far, and then those that are left
abbrev pub invariant-loop-turn : goal.invariant-loop-turn
invariant-loop-turn l =
    ahead (map bytes_of l.initial.components.items) (read_items cut_content l.count l.initial.reader)
    ≡ ahead (map bytes_of l.components.items) (read_items cut_content (l.count - l._turn) l.reader)

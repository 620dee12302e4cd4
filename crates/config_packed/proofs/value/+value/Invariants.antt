use Rattle.std.proofs.Common.{◌≡◌, ◌+◌, ◌-◌, ◌*◌}
use Rattle.config_packed.specs.Reading.{read_field, read_items, read_value_within}
use Rattle.config_packed.proofs.Items.{ahead}
use Rattle.config_packed.proofs.value.+value.Given as goal

abbrev pub decreases-take_value : goal.decreases-take_value
decreases-take_value l = 3 * l.depth

abbrev pub decreases-take_field : goal.decreases-take_field
decreases-take_field l = 3 * l.depth + 1

abbrev pub decreases-take_record : goal.decreases-take_record
decreases-take_record l = 3 * l.depth + 2

-- all fields are those so far, and then those that are left
abbrev pub invariant-take_record-loop-turn : goal.invariant-take_record-loop-turn
invariant-take_record-loop-turn l = read_items (read_field (read_value_within l.depth)) l.count l.initial.reader ≡ ahead l.fields.items (read_items (read_field (read_value_within l.depth)) (l.count - l._turn) l.reader)

use Rattle.std.proofs.Common.{◌≡◌, ◌+◌, ◌-◌, ◌*◌}
use Rattle.config_packed.specs.Reading.{read_field, read_items, read_value_within}
use Rattle.config_packed.proofs.skip.+value.Given as goal

abbrev pub decreases-skip_value : goal.decreases-skip_value
decreases-skip_value l = 3 * l.depth

abbrev pub decreases-skip_field : goal.decreases-skip_field
decreases-skip_field l = 3 * l.depth + 1

abbrev pub decreases-skip_record : goal.decreases-skip_record
decreases-skip_record l = 3 * l.depth + 2

-- behind all fields is where it is behind those that are left
abbrev pub invariant-skip_record-loop-turn : goal.invariant-skip_record-loop-turn
invariant-skip_record-loop-turn l = (read_items (read_field (read_value_within l.depth)) l.count l.initial.reader).1 ≡ (read_items (read_field (read_value_within l.depth)) (l.count - l._turn) l.reader).1

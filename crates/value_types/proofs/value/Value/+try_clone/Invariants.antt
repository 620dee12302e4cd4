use Rattle.std.proofs.Common.{◌≡◌, take}
use Rattle.value_types.proofs.value.Value.+try_clone.Given as goal

-- the fields so far are copied
abbrev pub invariant-loop-field : goal.invariant-loop-field
invariant-loop-field l = l.copies.items ≡ take l.field-index l.field-items

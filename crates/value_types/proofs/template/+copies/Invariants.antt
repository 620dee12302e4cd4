use Rattle.std.proofs.Common.{◌≡◌, take}
use Rattle.value_types.proofs.template.+copies.Given as goal

-- the templates so far are copied
abbrev pub invariant-copies-loop-part : goal.invariant-copies-loop-part
invariant-copies-loop-part l = l.copies.items ≡ take l.part-index l.parts

use Rattle.std.proofs.Common.{◌≡◌, take}
use Rattle.config_parts.proofs.copy.SeqTryClone.try_clone.Given as goal

-- the elements so far are copied
abbrev pub invariant-loop-element : goal.invariant-loop-element
invariant-loop-element g l = l.copies.items ≡ take l.element-index l.element-items

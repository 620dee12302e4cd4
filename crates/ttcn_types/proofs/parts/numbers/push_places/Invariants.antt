use Rattle.std.proofs.Common.{◌≡◌, ◌+◌, length}
use Rattle.ttcn_types.proofs.parts.numbers.push_places.Given as goal

-- a place for each number so far
abbrev pub invariant-loop-item : goal.invariant-loop-item
invariant-loop-item l = length l.places.items ≡ length l.fn.places.items + l._item

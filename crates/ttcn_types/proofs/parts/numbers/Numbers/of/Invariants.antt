use Rattle.std.proofs.Common.{length}
use Rattle.ttcn_types.proofs.Sums.{Summing}
use Rattle.ttcn_types.proofs.parts.numbers.Numbers.of.Given as goal

-- the sums so far, with those that are left, are all of them
abbrev pub invariant-loop-definition : goal.invariant-loop-definition
invariant-loop-definition l = Summing l.definitions l.definition-index l.before.items (length l.places.items)

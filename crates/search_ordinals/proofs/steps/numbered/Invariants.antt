use Rattle.std.proofs.Common.{◌≡◌}
use Rattle.search_ordinals.proofs.steps.numbered.Given as goal
use Rattle.search_ordinals.specs.internal.Numbered.{numbered}

abbrev pub invariant-loop-branch : goal.invariant-loop-branch
invariant-loop-branch g l = l.pairs.items ≡ numbered 0 l.yielded

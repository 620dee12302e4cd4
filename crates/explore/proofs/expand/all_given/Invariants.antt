use Rattle.std.proofs.Common.{◌≡◌}
use Rattle.explore.specs.internal.Expansion.{all_given}
use Rattle.explore.proofs.expand.all_given.Given as goal

abbrev pub invariant-loop-label : goal.invariant-loop-label
invariant-loop-label g l = l.given.items ≡ all_given l.yielded

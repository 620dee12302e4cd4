use Rattle.std.proofs.Common.{◌≡◌, ◌++◌}
use Rattle.explore.specs.internal.Expansion.{candidates_with}
use Rattle.explore.proofs.expand.add_candidates.Given as goal

abbrev pub invariant-loop-label : goal.invariant-loop-label
invariant-loop-label g l = l.candidates.items ≡ l.fn.candidates.items ++ candidates_with l.place l.yielded

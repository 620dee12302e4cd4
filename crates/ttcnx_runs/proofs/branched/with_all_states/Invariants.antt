use Rattle.std.proofs.Common.{◌≡◌, Some, map}
use Rattle.ttcnx_runs.proofs.branched.with_all_states.Given as goal

abbrev pub invariant-loop-branch : goal.invariant-loop-branch
invariant-loop-branch g l = l.pairs.items ≡ map (λ pair. (pair.0, Some pair.1)) l.yielded

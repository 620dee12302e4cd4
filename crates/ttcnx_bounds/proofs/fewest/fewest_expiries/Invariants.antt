use Rattle.std.proofs.Common.{ℕ, ◌<◌, None}
use Rattle.ttcnx_bounds.specs.BoundedFound.{IsBestRunBounded}
use Rattle.ttcnx_bounds.specs.Fewest.{at_most}
use Rattle.ttcnx_bounds.proofs.fewest.fewest_expiries.Given as goal

-- no run with fewer expiries ends with the verdict
abbrev pub invariant-loop-expiries : goal.invariant-loop-expiries
invariant-loop-expiries g l = (fewer : ℕ) → fewer < l.expiries → IsBestRunBounded l.machine.test (at_most l.patient fewer) l.plan.steps l.verdict None

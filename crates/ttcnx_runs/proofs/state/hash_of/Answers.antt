use Rattle.std.proofs.Common.{ℕ, ◌/◌, ◌^◌, ap}
use Rattle.ttcnx_runs.proofs.state.hash_of.Goals as goal

pub returns : goal.returns
returns c = ap (λ (code : ℕ). code / 2 ^ 32) c.hash.ensures

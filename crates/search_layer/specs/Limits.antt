-- What a plan may ask for.
use Rattle.std.specs.Prelude.{◌≤◌}
use Rattle.search_layer.specs.declared.plan.Plan.{Plan}

-- at most 100,000 steps, a limit of 1 to 10,000,000, 1 to 64 workers, pieces of 1 to 65,536 candidates
pub record IsWithinLimits (plan : Plan) : Type 0 where
  pub steps : plan.steps ≤ 100000
  pub limit_low : 1 ≤ plan.limit
  pub limit_high : plan.limit ≤ 10000000
  pub workers_low : 1 ≤ plan.workers
  pub workers_high : plan.workers ≤ 64
  pub piece_low : 1 ≤ plan.piece
  pub piece_high : plan.piece ≤ 65536

-- Configurations that runs over live parts may lead to.
use Rattle.std.specs.Prelude.{◌≡◌}
use Rattle.laws_order.specs.Order.{StandsInOrder}
use Rattle.semantics.specs.Configurations.{Configuration}
use Rattle.semantics.specs.LiveParts.{live_part}
use Rattle.ttcn_step.specs.FrameLimit.{AllKeepFrameLimit}

-- components, names, timers, connections and mappings stand in their order, no mark stands first, no component has more frames than the limit, and nothing is left to forget
pub record FitsRuns (c : Configuration) : Type 0 where
  pub ordered : StandsInOrder c
  pub frames : AllKeepFrameLimit c
  pub live : live_part c ≡ c

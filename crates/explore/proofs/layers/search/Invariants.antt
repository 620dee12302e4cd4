use Rattle.std.proofs.Common.{◌≡◌, ℕ, ◌<◌, ◌≤◌, length, take}
use Rattle.std.specs.Prelude.{All}
use Rattle.explore.specs.declared.ending.Ending.TheVariants as ending
use Rattle.search_layer.specs.internal.Search.{found_after, as_found}
use Rattle.explore.specs.internal.Stopped.{IsQuiet, IsUnmarked}
use Rattle.explore.proofs.layers.search.Given as goal

abbrev pub invariant-loop-layer : goal.invariant-loop-layer
invariant-loop-layer g l = record {
  found : as_found l.explored.visited.states.keys l.explored.visited.steps l.explored.from l.explored.summary
      ≡ found_after (g.Y.System.graph l.system) g.U.Summary.joins (g.U.Summary.observation l.system) g.Y.State.PartialEq.eq l.layer;
  fits : All (g.Y.System.fits l.system) l.explored.visited.states.keys;
  within : length l.explored.visited.states.keys ≤ l.plan.limit;
  from : l.explored.from ≤ length l.explored.visited.states.keys;
  steps : l.explored.steps ≡ l.layer;
  ending : l.explored.ending ≡ ending.Steps;
  led_on : (k : ℕ) → k < l.layer → ¬ IsQuiet (g.Y.System.graph l.system) (found_after (g.Y.System.graph l.system) g.U.Summary.joins (g.U.Summary.observation l.system) g.Y.State.PartialEq.eq k);
  unmarked : IsUnmarked (g.Y.System.graph l.system) (take l.explored.from l.explored.visited.states.keys) l.stops.at_mark;
}

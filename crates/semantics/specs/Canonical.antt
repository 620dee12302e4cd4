-- Runs over live parts (ES 201 873-4).
use Rattle.std.specs.Prelude.{◌≡◌}
use Rattle.semantics.specs.Configurations.{Configuration}
use Rattle.semantics.specs.LiveParts.{live_part}
use Rattle.semantics.specs.Runs.{graph_of}
use Rattle.semantics.specs.Snapshots.{Test}
use Rattle.semantics.specs.Steps.{Label}
use Rattle.summary.specs.Graph.{Graph}
use Rattle.summary.specs.Sums.{Observation}

-- the live parts of the configurations of a test case, and the steps between them
abbrev pub canonical_graph : Test → Graph Configuration Label
canonical_graph test = record {
  first = live_part (graph_of test).first;
  enabled = (graph_of test).enabled;
  after = λ c label. live_part ((graph_of test).after c label);
  mark = (graph_of test).mark;
}

-- what is seen of a configuration and of a step is seen of the live part
pub record SeesLiveParts {S : Type 0} (reading : Observation Configuration Label S) : Type 0 where
  pub at : (c : Configuration) → reading.at (live_part c) ≡ reading.at c
  pub by : (c : Configuration) (label : Label) → reading.by (live_part c) label ≡ reading.by c label

-- With which verdicts runs and fine runs end.
use Rattle.std.specs.Prelude.{◌≡◌, ℕ, List, Ok}
use Rattle.ttcn_syntax.specs.declared.tree.statement.Verdict.{Verdict}
use Rattle.laws_fine.specs.Fine.{Fine, FineLabel, fine_replay}
use Rattle.semantics.specs.Configurations.{Ended, badness}
use Rattle.semantics.specs.Runs.{graph_of, replay}
use Rattle.semantics.specs.Snapshots.{Test}
use Rattle.semantics.specs.Steps.{Label}
use Rattle.summary.specs.Exploration.{HasMark}
use Rattle.summary.specs.Run.{Run}

-- labels that are enabled one after the other lead to a verdict
pub record EndsWith (test : Test) (v : Verdict) : Type 0 where
  pub run : List Label
  pub ends : replay test run ≡ Ok (Ended v)

-- a run of the graph of a test case, of at most so many steps, ends with a verdict
pub record HasRun (test : Test) (v : Verdict) : Type 0 where
  pub steps : ℕ
  pub run : Run Label
  pub has : HasMark (graph_of test) steps (badness v) run

-- fine labels that can follow one after the other lead to a verdict
pub record EndsFinelyWith (test : Test) (v : Verdict) : Type 0 where
  pub labels : List FineLabel
  pub behind : Fine
  pub leads : fine_replay test labels ≡ Ok behind
  pub ends : behind.now ≡ Ended v

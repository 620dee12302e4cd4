-- The runs that a search keeps over live parts are the least of the shortest runs.
use Rattle.std.proofs.Common.{ℕ, ◌<◌, List, Option, Some, None, option_map, arith}
use Rattle.std.specs.Prelude.{slice_index_or}
use Rattle.std.specs.declared.alloc.Global.{Global}
use Rattle.std.specs.declared.vec.Vec.{Vec}
use Rattle.explore.specs.Best.{AreBest, IsBestOf}
use Rattle.ttcnx_runs.specs.Found.{IsBestRun}
use Rattle.laws_live.proofs.SameRuns.{same-marked}
use Rattle.semantics.proofs.CanonicalRuns.{best_alike}
use Rattle.semantics.specs.Canonical.{canonical_graph}
use Rattle.semantics.specs.Configurations.{badness}
use Rattle.semantics.specs.Labels.{label_cmp}
use Rattle.semantics.specs.Snapshots.{Test}
use Rattle.semantics.specs.Steps.{Label}
use Rattle.ttcn_syntax.specs.declared.tree.statement.Verdict.{Verdict}
use Rattle.ttcn_syntax.specs.declared.tree.statement.Verdict.TheVariants as verdict

pub below-8 : (v : Verdict) → badness v < 8
below-8 verdict.None = omega arith
below-8 verdict.Pass = omega arith
below-8 verdict.Inconc = omega arith
below-8 verdict.Fail = omega arith
below-8 verdict.Error = omega arith

module _ (test : Test) (n : ℕ) (v : Verdict) where
  best-of : (kept : Option (Vec Label Global)) → IsBestOf (canonical_graph test) label_cmp n (badness v) kept → IsBestRun test n v (option_map (λ run. run.items) kept)
  best-of None best = λ run has. best run ((same-marked test n (badness v) run).1 has)
  best-of (Some labels) best = (best.0, (best_alike test label_cmp n (badness v) best.0).0 best.1, best.2)

  pub best-run : (kept : List (Option (Vec Label Global))) → AreBest (canonical_graph test) label_cmp n kept → IsBestRun test n v (option_map (λ run. run.items) (slice_index_or kept (badness v) None))
  best-run kept best = best-of (slice_index_or kept (badness v) None) (best.each (badness v) (below-8 v))

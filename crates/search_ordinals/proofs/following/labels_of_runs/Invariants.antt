use Rattle.std.proofs.Common.{◌≡◌, ℕ, ◌<◌, length, get_or}
use Rattle.std.specs.Prelude.{None}
use Rattle.search_ordinals.specs.Told.{AreToldWhereTold}
use Rattle.search_ordinals.proofs.following.labels_of_runs.Given as goal

abbrev pub invariant-loop-run : goal.invariant-loop-run
invariant-loop-run g l =
    (length l.all.items ≡ l.run-index)
    × ((k : ℕ) → k < l.run-index → AreToldWhereTold (g.Y.Located.branch l.system) (g.Y.System.graph l.system) (get_or l.runs k None) (get_or l.all.items k None))

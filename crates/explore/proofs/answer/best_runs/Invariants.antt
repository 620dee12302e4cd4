use Rattle.std.proofs.Common.{◌≡◌, ℕ, ◌<◌, length, get_or}
use Rattle.std.specs.Prelude.{None}
use Rattle.explore.specs.internal.Tied.{IsRunKept}
use Rattle.explore.proofs.answer.best_runs.Given as goal

abbrev pub invariant-loop-place : goal.invariant-loop-place
invariant-loop-place g l =
    (length l.best.items ≡ l.place-index)
    × ((k : ℕ) → k < l.place-index → IsRunKept l.visited.steps (get_or l.place-items k None) (get_or l.best.items k None))

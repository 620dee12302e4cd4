use Rattle.std.proofs.Common.{◌≡◌, ℕ, take}
use Rattle.std.specs.List.{AllZip, flat_map}
use Rattle.std.specs.Prelude.{IfSome}
use Rattle.config_parts.specs.declared.config.Config.TheVariants as config
use Rattle.config_parts.specs.declared.config.Going.{Going}
use Rattle.semantics.specs.Canonical.{canonical_graph}
use Rattle.ttcn_step.specs.Machines.{said}
use Rattle.ttcnx_runs.proofs.sparing.pairs_behind.Given as goal
use Rattle.ttcnx_runs.specs.Remembered.{steps_of}
use Rattle.ttcnx_runs.specs.internal.Spared.{IsReached, IsSpared}

abbrev pub invariant-loop-at : goal.invariant-loop-at
invariant-loop-at g l =
    (before going : Going) (nth : ℕ) → l.recall.packed.now ≡ config.Going going
    → IfSome l.last (λ last. IsReached g.K.Scheme.machine (λ one. one.now.key.items) (λ one. one.now.outcomes.items) before nth last.known.items last.at last.effect.now going)
    → AllZip (IsSpared (canonical_graph g.K.Scheme.machine.test) (said g.K.Scheme.machine (config.Going before)) nth) (flat_map (steps_of g.K.Scheme.machine going) (take l.at going.components)) l.pairs.items

use Rattle.std.proofs.Common.{◌≡◌, ◌++◌, ℕ, List, Option, Some, map, take}
use Rattle.std.specs.List.{AllZip}
use Rattle.std.specs.Prelude.{IfSome, slice_get}
use Rattle.config_parts.specs.declared.component.Component.{Component}
use Rattle.config_parts.specs.declared.config.Config.TheVariants as config
use Rattle.config_parts.specs.declared.config.Going.{Going}
use Rattle.semantics.specs.Canonical.{canonical_graph}
use Rattle.semantics.specs.Configurations as rules
use Rattle.ttcn_step.specs.Machines.{said}
use Rattle.ttcn_syntax.specs.declared.place.Span.{Span}
use Rattle.ttcnx_runs.proofs.sparing.push_recalled.Given as goal
use Rattle.ttcnx_runs.specs.Remembered.{shown}
use Rattle.ttcnx_runs.specs.internal.Spared.{IsReached, IsSpared}

abbrev pub invariant-loop-outcome : goal.invariant-loop-outcome
invariant-loop-outcome g l =
    (before going : Going) (nth : ℕ) (component : Component) (start : List (Option Span × rules.Configuration)) → l.recall.packed.now ≡ config.Going going → slice_get going.components l.at ≡ Some component
    → IfSome l.last (λ last. IsReached g.K.Scheme.machine (λ one. one.now.key.items) (λ one. one.now.outcomes.items) before nth last.known.items last.at last.effect.now going)
    → AllZip (IsSpared (canonical_graph g.K.Scheme.machine.test) (said g.K.Scheme.machine (config.Going before)) nth) start l.initial.pairs.items
    → AllZip (IsSpared (canonical_graph g.K.Scheme.machine.test) (said g.K.Scheme.machine (config.Going before)) nth) (start ++ map (shown g.K.Scheme.machine going l.at component) (take l.outcome-index l.outcome-items)) l.pairs.items

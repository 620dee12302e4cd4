use Rattle.std.proofs.Common.{◌≡◌, Some, map, take}
use Rattle.std.specs.List.{All, filter}
use Rattle.std.specs.Prelude.{slice_get}
use Rattle.config_parts.specs.Legend.{going_by}
use Rattle.config_parts.specs.declared.component.Component.{Component}
use Rattle.config_parts.specs.declared.config.Config.TheVariants as form
use Rattle.config_parts.specs.declared.config.Going.{Going}
use Rattle.laws_local.specs.Alone.{IsLive, is_of_path}
use Rattle.ttcn_step.specs.Machines.{legend}
use Rattle.ttcnx_runs.proofs.remembering.outcomes_at.Given as goal
use Rattle.ttcnx_runs.specs.internal.Makes.{Holds, step_of}
use Rattle.ttcnx_runs.specs.Remembered.{IsEffectWithin, place_at, shown}

abbrev pub invariant-loop-step : goal.invariant-loop-step
invariant-loop-step g l = record {
  made : (going : Going) (component : Component) → l.config ≡ form.Going going → IsLive (going_by (legend g.K.Scheme.machine) going) → slice_get going.components l.at ≡ Some component → l.path ≡ component.itself.path
      → Holds g.K.Scheme.machine going l.at component (λ h i d. map (shown g.K.Scheme.machine h i d) l.outcomes.items
      ≡ map (step_of g.K.Scheme.machine h) (filter (is_of_path l.path) (map (λ s. s.label) (take l.step-index l.steps))));
  placed : (going : Going) (component : Component) → l.config ≡ form.Going going → IsLive (going_by (legend g.K.Scheme.machine) going) → slice_get going.components l.at ≡ Some component → l.path ≡ component.itself.path
      → Holds g.K.Scheme.machine going l.at component (λ h i d. map (λ outcome. outcome.event) l.outcomes.items
      ≡ map (place_at g.K.Scheme.machine h) (filter (is_of_path l.path) (map (λ s. s.label) (take l.step-index l.steps))));
  within : (going : Going) (component : Component) → l.config ≡ form.Going going → IsLive (going_by (legend g.K.Scheme.machine) going) → slice_get going.components l.at ≡ Some component → l.path ≡ component.itself.path
      → Holds g.K.Scheme.machine going l.at component (λ h i d. All (λ outcome. IsEffectWithin g.K.Scheme.machine h i outcome.effect) l.outcomes.items);
}

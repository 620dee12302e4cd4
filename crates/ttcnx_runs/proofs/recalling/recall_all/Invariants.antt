use Rattle.std.proofs.Common.{◌≡◌, ℕ, ◌<◌, Some, length, map}
use Rattle.std.specs.Prelude.{slice_get}
use Rattle.config_packed.specs.Pieces.{IsCut, spell_key}
use Rattle.config_parts.specs.declared.component.Component.{Component}
use Rattle.config_parts.specs.declared.config.Going.{Going}
use Rattle.ttcnx_runs.proofs.recalling.recall_all.Given as goal

abbrev pub invariant-loop-at : goal.invariant-loop-at
invariant-loop-at g l = record {
  count : length l.all.items ≡ l.at;
  each : (going : Going) → IsCut going l.parts → (k : ℕ) (component : Component) → k < l.at → slice_get going.components k ≡ Some component
      → slice_get (map (λ one. one.now.key.items) l.all.items) k ≡ Some (spell_key going k component);
}

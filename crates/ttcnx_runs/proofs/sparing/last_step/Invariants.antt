use Rattle.std.proofs.Common.{◌≡◌, ◌+◌, ◌<◌, ℕ, Some, length, map}
use Rattle.std.specs.List.{flat_map}
use Rattle.std.specs.Prelude.{slice_get}
use Rattle.config_packed.specs.Pieces.{IsCut, spell_key}
use Rattle.config_parts.specs.declared.component.Component.{Component}
use Rattle.config_parts.specs.declared.config.Going.{Going}
use Rattle.ttcnx_runs.proofs.sparing.last_step.Given as goal

abbrev pub invariant-loop-at : goal.invariant-loop-at
invariant-loop-at g l = record {
  count : length l.known.items ≡ l.at;
  counted : l.nth ≡ length (flat_map (λ one. one.now.outcomes.items) l.known.items) + l.left;
  each : (earlier going : Going) → IsCut earlier l.before → IsCut going l.parts → (k : ℕ) (component : Component) → k < l.at → slice_get earlier.components k ≡ Some component
      → slice_get (map (λ one. one.now.key.items) l.known.items) k ≡ Some (spell_key earlier k component);
}

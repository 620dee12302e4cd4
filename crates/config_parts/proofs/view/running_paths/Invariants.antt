use Rattle.std.proofs.Common.{◌≡◌, ◌++◌, drop, map}
use Rattle.config_parts.specs.Views.{running_paths}
use Rattle.config_parts.proofs.view.running_paths.Given as goal

-- those so far, before those to come
abbrev pub invariant-loop-component : goal.invariant-loop-component
invariant-loop-component l = map (λ path. path.now) l.paths.items ++ running_paths (drop l.component-index l.components) ≡ running_paths l.components

use Rattle.std.proofs.Common.{◌≡◌, drop}
use Rattle.config_canonical.specs.internal.Husks.{forgotten}
use Rattle.config_canonical.proofs.canonical.forgotten.Given as goal

-- the worst of those so far and of those to come
abbrev pub invariant-loop-component : goal.invariant-loop-component
invariant-loop-component l = forgotten l.worst (drop l.component-index l.components) ≡ forgotten l.fn.forgotten l.components

use Rattle.std.proofs.Common.{◌≡◌, drop}
use Rattle.config_parts.specs.internal.Done.{overall}
use Rattle.config_parts.proofs.going.overall.Given as goal

-- the worst of those so far and of those to come
abbrev pub invariant-loop-component : goal.invariant-loop-component
invariant-loop-component l = overall l.worst (drop l.component-index l.components) ≡ overall l.fn.forgotten l.components

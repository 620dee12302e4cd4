use Rattle.std.proofs.Common.{◌≡◌, map}
use Rattle.config_canonical.specs.internal.Husks.{live_component}
use Rattle.config_canonical.proofs.canonical.live_components.Given as goal

abbrev pub invariant-loop-component : goal.invariant-loop-component
invariant-loop-component l = l.live.items ≡ map live_component l.yielded

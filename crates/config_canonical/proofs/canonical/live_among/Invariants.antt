use Rattle.std.proofs.Common.{◌≡◌, take}
use Rattle.std.specs.List.{filter}
use Rattle.config_canonical.specs.internal.Husks.{is_live}
use Rattle.config_canonical.proofs.canonical.live_among.Given as goal

abbrev pub invariant-loop-connection : goal.invariant-loop-connection
invariant-loop-connection l = l.live.items ≡ filter (is_live l.components) (take l.connection-index l.connections)

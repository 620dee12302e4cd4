use Rattle.std.proofs.Common.{◌≡◌, drop}
use Rattle.config_parts.specs.internal.Ends.{is_double}
use Rattle.config_parts.proofs.connect.is_double.Given as goal

-- none so far
abbrev pub invariant-loop-connection : goal.invariant-loop-connection
invariant-loop-connection l = is_double (drop l.connection-index l.connections) l.end l.peer ≡ is_double l.connections l.end l.peer

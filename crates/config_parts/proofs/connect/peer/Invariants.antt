use Rattle.std.proofs.Common.{◌≡◌, ◌++◌, drop}
use Rattle.std.specs.Option.{option_map}
use Rattle.config_parts.specs.internal.Ends.{lone, peer, peers}
use Rattle.config_parts.proofs.Named.{option-list}
use Rattle.config_parts.proofs.connect.peer.Given as goal

-- the one found so far, before those to come
abbrev pub invariant-loop-connection : goal.invariant-loop-connection
invariant-loop-connection l =
    lone (option-list (option_map (λ e. e.now) l.found) ++ peers (drop l.connection-index l.connections) l.from (option_map (λ p. p.now) l.to))
    ≡ peer l.connections l.from (option_map (λ p. p.now) l.to)

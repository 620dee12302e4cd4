use Rattle.std.proofs.Common.{◌≡◌, bytes_eq, drop}
use Rattle.std.specs.List.{position_from}
use Rattle.ttcn_values.proofs.named.position_of.Given as goal

-- the first one of the name is among those that are left
abbrev pub invariant-loop-at : goal.invariant-loop-at
invariant-loop-at g l =
    position_from (λ thing. bytes_eq (g.T.Named.name_of thing) l.name) l.at (drop l.at l.things)
    ≡ position_from (λ thing. bytes_eq (g.T.Named.name_of thing) l.name) 0 l.things

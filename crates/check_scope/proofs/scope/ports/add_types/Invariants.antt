use Rattle.std.proofs.Common.{◌≡◌, ◌++◌, map, drop}
use Rattle.check_scope.specs.Names.{resolved}
use Rattle.check_scope.specs.internal.Tables.{said}
use Rattle.check_scope.proofs.scope.ports.add_types.Given as goal

-- the types so far and those that are left are all
abbrev pub invariant-loop-name : goal.invariant-loop-name
invariant-loop-name l =
    l.types.items ++ map (resolved (said l.defined)) (drop l.name-index l.names)
    ≡ l.fn.types.items ++ map (resolved (said l.fn.defined)) l.fn.names

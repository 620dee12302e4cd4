use Rattle.std.proofs.Common.{◌≡◌, ◌++◌, drop}
use Rattle.std.specs.List.{flat_map}
use Rattle.check_scope.specs.PortTypes as spec
use Rattle.check_scope.specs.internal.Tables.{said}
use Rattle.check_scope.proofs.scope.ports.types_of_messages.Given as goal

-- the types so far and those that are left are all
abbrev pub invariant-loop-messages : goal.invariant-loop-messages
invariant-loop-messages l =
    l.types.items ++ flat_map (spec.types_passing (said l.defined) l.incoming) (drop l.messages-index l.all)
    ≡ flat_map (spec.types_passing (said l.fn.defined) l.fn.incoming) l.fn.all

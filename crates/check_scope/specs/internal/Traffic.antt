-- What passes at ports, in the words of the private contracts.
use Rattle.std.specs.Prelude.{Bool, true, false, List, [], Option, Some, None}
use Rattle.check_scope.specs.declared.traffic.Traffic.{Traffic}
use Rattle.check_scope.specs.declared.types.DataType.{DataType}

-- the types of the messages that pass at ports of a type in a direction
abbrev pub types_through : Option Traffic → Bool → List (Option DataType)
types_through None incoming = []
types_through (Some traffic) true = traffic.incoming.types.items
types_through (Some traffic) false = traffic.outgoing.types.items

-- the types of the messages that pass at ports in a direction: none where the type of the ports is unknown
abbrev pub types_at : Option (Option Traffic) → Bool → List (Option DataType)
types_at None incoming = []
types_at (Some traffic) incoming = types_through traffic incoming

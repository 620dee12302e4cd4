-- What passes at the ports of a type (ES 201 873-1, 22.2).
use Rattle.std.specs.Prelude.{Bool, true, false, List, [], ◌∷◌, map, Option, Some, None, if◌then◌else◌}
use Rattle.std.specs.List.{flat_map, list_all}
use Rattle.ttcn_syntax.specs.declared.tree.definition.DefinitionKind.{DefinitionKind}
use Rattle.ttcn_syntax.specs.declared.tree.definition.DefinitionKind.TheVariants as kind
use Rattle.ttcn_syntax.specs.declared.tree.definition.Direction.{Direction}
use Rattle.ttcn_syntax.specs.declared.tree.definition.Direction.TheVariants as direction
use Rattle.ttcn_syntax.specs.declared.tree.definition.PortMessages.{PortMessages}
use Rattle.check_scope.specs.Names.{Names, resolved}
use Rattle.check_scope.specs.Typings.{same_type}
use Rattle.check_scope.specs.declared.types.DataType.{DataType}

-- whether a direction lets messages come in at a port, or go out
abbrev pub passes : Bool → Direction → Bool
passes incoming direction.In = incoming
passes true direction.Out = false
passes false direction.Out = true
passes incoming direction.Inout = true

-- the types that a list of message types admits in this direction, each unknown where its name is no type
abbrev pub types_passing : Names → Bool → PortMessages → List (Option DataType)
types_passing names incoming messages = if passes incoming messages.direction then map (resolved names) messages.types else []

-- the types of all messages that a port type lets pass in this direction, none of any other definition
abbrev pub types_of_port : Names → Bool → Option DefinitionKind → List (Option DataType)
types_of_port names incoming (Some (kind.Port p)) = flat_map (types_passing names incoming) p.messages
types_of_port names incoming _ = []

-- two types are the same: not judged where one is unknown
abbrev pub agrees : DataType → Option DataType → Bool
agrees t None = true
agrees t (Some other) = same_type t other

-- the only type that a port lets pass
abbrev pub only_type : List (Option DataType) → Option DataType
only_type [] = None
only_type (None ∷ types) = None
only_type (Some t ∷ types) = if list_all (agrees t) types then Some t else None

-- What port types list.
use Rattle.std.specs.Prelude.{List, [], Option, Some}
use Rattle.ttcn_syntax.specs.declared.tree.definition.DefinitionKind.{DefinitionKind}
use Rattle.ttcn_syntax.specs.declared.tree.definition.DefinitionKind.TheVariants as kind
use Rattle.ttcn_syntax.specs.declared.tree.definition.PortMessages.{PortMessages}

-- nothing where no port type stands
abbrev pub messages_of : Option DefinitionKind → List PortMessages
messages_of (Some (kind.Port p)) = p.messages
messages_of _ = []

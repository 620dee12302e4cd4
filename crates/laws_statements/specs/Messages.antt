-- What is known of the types of messages.
use Rattle.std.specs.Prelude.{◌≡◌}
use Rattle.ttcn_syntax.specs.declared.tree.template.MessageTemplate.{MessageTemplate}
use Rattle.check_scope.specs.Names.{Scope}
use Rattle.check_scope.specs.declared.types.DataType.{DataType}
use Rattle.check_scope.specs.declared.types.Typing.TheVariants as typing
use Rattle.check_rules.specs.Messages.{Passage, type_of_message}

-- the type of a message is known where messages of some types pass
pub record HasType (scope : Scope) (port : Passage) (message : MessageTemplate) : Type 0 where
  pub data_type : DataType
  pub is : (type_of_message scope port.0 port.1 message).typing ≡ typing.Known data_type

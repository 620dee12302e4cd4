-- What redirects store, where they break no rule.
use Rattle.std.specs.Prelude.{◌≡◌, ℕ, Some, IfSome}
use Rattle.ttcn_syntax.specs.declared.tree.expression.Reference.{Reference}
use Rattle.ttcn_syntax.specs.declared.tree.statement.Receive.{Receive}
use Rattle.ttcn_syntax.specs.declared.tree.template.MessageTemplate.{MessageTemplate}
use Rattle.check_scope.specs.Names.{Scope}
use Rattle.check_scope.specs.declared.types.DataType.{DataType}
use Rattle.check_scope.specs.declared.types.DataType.TheVariants as type
use Rattle.check_scope.specs.declared.types.Typing.TheVariants as typing
use Rattle.check_rules.specs.Messages.{incoming, type_of_message}
use Rattle.laws_statements.specs.Targets.{IsVariable}

-- a template tells the message, and a variable or a field in one takes it, which is of the message's type
pub record StoresMessage (scope : Scope) (receive : Receive) (reference : Reference) : Type 0 where
  pub message : MessageTemplate
  pub stands : receive.message ≡ Some message
  pub data_type : DataType
  pub is : (type_of_message scope (incoming scope receive.port).0 (incoming scope receive.port).1 message).typing ≡ typing.Known data_type
  pub variable : IsVariable scope reference data_type

-- a variable or a field in one takes the sender, and is of a component type
pub record StoresSender (scope : Scope) (reference : Reference) : Type 0 where
  pub at : ℕ
  pub variable : IsVariable scope reference (type.Component at)

-- the redirects of a `receive`, where there are any
pub record HasRedirects (scope : Scope) (receive : Receive) : Type 0 where
  pub value : IfSome receive.value (StoresMessage scope receive)
  pub sender : IfSome receive.sender (StoresSender scope)

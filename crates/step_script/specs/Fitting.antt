-- Scripts whose messages may come in at the system ports of a test case (ES 201 873-1, 9 and 22.2).
use Rattle.std.specs.Prelude.{◌≡◌, ℕ, List, Option, Some, true, Contains}
use Rattle.std.specs.List.{All}
use Rattle.ttcn_syntax.specs.declared.tree.definition.Definition.{Definition}
use Rattle.check_scope.specs.declared.types.DataType.{DataType}
use Rattle.laws_evaluation.specs.Types.{is_of}
use Rattle.semantics.specs.Entries.{Identifier}
use Rattle.semantics.specs.Events.{type_of}
use Rattle.semantics.specs.Snapshots.{Test}
use Rattle.semantics.specs.Statements.{port_type, system_type, types_at}
use Rattle.value_types.specs.Values.{is_complete}
use Rattle.value_types.specs.declared.value.Value.{Value}

-- a message that may come in at a port of this type: a whole value of a type that the port type lists as in
pub record ComesIn (definitions : List Definition) (port : Option ℕ) (v : Value) : Type 0 where
  pub data_type : DataType
  pub is_typed : type_of v ≡ Some data_type
  pub goes : is_of definitions data_type v ≡ true
  pub is_whole : is_complete v ≡ true
  pub is_listed : Contains (types_at definitions true port) (Some data_type)

-- what a script has for one port: that is a system port of the test case, at which each of the messages may come in
pub record FitsPort (test : Test) (entry : Identifier × List Value) : Type 0 where
  pub port : Option ℕ
  pub is_port : port_type test.definitions (system_type test) entry.0 ≡ Some port
  pub messages : All (ComesIn test.definitions port) entry.1

-- each port of the script of a test case is a system port, at which the script's messages may come in
abbrev pub FitsScript : Test → Type 0
FitsScript test = All (FitsPort test) test.script

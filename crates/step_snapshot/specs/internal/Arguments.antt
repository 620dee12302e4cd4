-- Arguments, one by one.
use Rattle.std.specs.Prelude.{Option, Some, None}
use Rattle.ttcn_syntax.specs.declared.tree.definition.Parameter.{Parameter}
use Rattle.semantics.specs.Entries.{Entries, put}
use Rattle.value_types.specs.declared.value.Value.{Value}

-- a parameter, if there is one, has a value
abbrev pub with_argument : Option Parameter → Value → Entries Value → Entries Value
with_argument None v values = values
with_argument (Some parameter) v values = put parameter.name v values

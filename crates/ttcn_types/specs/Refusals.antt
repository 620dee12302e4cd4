-- Why a module is refused.
use Rattle.std.specs.Prelude.{List}
use Rattle.ttcn_syntax.specs.declared.tree.definition.Definition.{Definition}
use Rattle.check_rules.specs.Rules.{IsLeast}
use Rattle.ttcn_types.specs.declared.error.CheckError.{CheckError}
use Rattle.ttcn_types.specs.declared.error.CheckError.TheVariants.{Broken, Memory}

-- why a module is refused: the least rule that it breaks, unless memory ran out
abbrev pub IsRefusal : List Definition → CheckError → Type 0
IsRefusal definitions (Broken r place) = IsLeast definitions r
IsRefusal definitions (Memory refused) = Unit {0}

-- What stands round constants and templates, in the words of the private contracts.
use Rattle.std.specs.Prelude.{None}
use Rattle.std.specs.Option.{option_or}
use Rattle.check_scope.specs.Names.{module_names}
use Rattle.check_scope.specs.Names as spec
use Rattle.ttcn_types.specs.declared.parts.surroundings.Surroundings.{Surroundings}
use Rattle.check_scope.specs.internal.Tables.{said}

-- the scope of a constant or a template of the module: the parameters first, and the module
abbrev pub scope_of : Surroundings → spec.Scope
scope_of around = record {
  definitions = around.scope.now.definitions.now;
  names = λ name. option_or (said around.parameters name) (module_names around.scope.now.definitions.now name);
  itself = None;
}

-- What a name of a module stands for is defined where it says.
use Rattle.std.specs.Prelude.{◌≡◌, ℕ, true, List, Some, bytes_eq}
use Rattle.std.specs.List.{list_any}
use Rattle.ttcn_syntax.specs.declared.tree.definition.Altstep.{Altstep}
use Rattle.ttcn_syntax.specs.declared.tree.definition.ComponentType.{ComponentType}
use Rattle.ttcn_syntax.specs.declared.tree.definition.Definition.{Definition}
use Rattle.ttcn_syntax.specs.declared.tree.definition.DefinitionKind.TheVariants as kind
use Rattle.ttcn_syntax.specs.declared.tree.definition.EnumeratedType.{EnumeratedType}
use Rattle.ttcn_syntax.specs.declared.tree.definition.Function.{Function}
use Rattle.ttcn_syntax.specs.declared.tree.definition.PortType.{PortType}
use Rattle.ttcn_syntax.specs.declared.tree.definition.RecordType.{RecordType}
use Rattle.ttcn_syntax.specs.declared.tree.definition.TemplateDefinition.{TemplateDefinition}
use Rattle.ttcn_syntax.specs.declared.tree.definition.Testcase.{Testcase}
use Rattle.ttcn_syntax.specs.declared.tree.statement.Constant.{Constant}
use Rattle.check_scope.specs.Names.{constant_at, kind_at}
use Rattle.check_scope.specs.declared.names.Meaning.{Meaning}
use Rattle.check_scope.specs.declared.names.Meaning.TheVariants as meaning

-- a definition of the kind that is meant stands at the position that is meant, and has the name
abbrev pub IsDefinedAs : List Definition → List ℕ → Meaning → Type 0
IsDefinedAs definitions name (meaning.Record at) = (r : RecordType) × (kind_at definitions at ≡ Some (kind.Record r)) × (r.name ≡ name)
IsDefinedAs definitions name (meaning.Enumerated at) = (e : EnumeratedType) × (kind_at definitions at ≡ Some (kind.Enumerated e)) × (e.name ≡ name)
IsDefinedAs definitions name (meaning.Enumerator at) =
    (e : EnumeratedType) × (kind_at definitions at ≡ Some (kind.Enumerated e)) × (list_any (λ n. bytes_eq n.name name) e.enumerators ≡ true)
IsDefinedAs definitions name (meaning.PortType at) = (p : PortType) × (kind_at definitions at ≡ Some (kind.Port p)) × (p.name ≡ name)
IsDefinedAs definitions name (meaning.Component at) = (c : ComponentType) × (kind_at definitions at ≡ Some (kind.Component c)) × (c.name ≡ name)
IsDefinedAs definitions name (meaning.ModuleConstant at item) = (c : Constant) × (constant_at definitions at item ≡ Some c) × (c.name ≡ name)
IsDefinedAs definitions name (meaning.Template at) = (t : TemplateDefinition) × (kind_at definitions at ≡ Some (kind.Template t)) × (t.name ≡ name)
IsDefinedAs definitions name (meaning.Function at) = (f : Function) × (kind_at definitions at ≡ Some (kind.Function f)) × (f.name ≡ name)
IsDefinedAs definitions name (meaning.Altstep at) = (a : Altstep) × (kind_at definitions at ≡ Some (kind.Altstep a)) × (a.name ≡ name)
IsDefinedAs definitions name (meaning.Testcase at) = (t : Testcase) × (kind_at definitions at ≡ Some (kind.Testcase t)) × (t.name ≡ name)
-- the module itself declares no variables, constants of blocks, ports or timers
IsDefinedAs definitions name _ = ⊥

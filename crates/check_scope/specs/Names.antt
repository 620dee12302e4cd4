-- What names stand for (ES 201 873-1, 5.2).
use Rattle.std.specs.Prelude.{ℕ, ◌+◌, List, [], ◌∷◌, ◌++◌, map, Option, Some, None, bytes_eq, if◌then◌else◌}
use Rattle.std.specs.List.{find, slice_get}
use Rattle.std.specs.Option.{option_map, option_or}
use Rattle.ttcn_syntax.specs.declared.tree.definition.Definition.{Definition}
use Rattle.ttcn_syntax.specs.declared.tree.definition.DefinitionKind.{DefinitionKind}
use Rattle.ttcn_syntax.specs.declared.tree.definition.DefinitionKind.TheVariants as kind
use Rattle.ttcn_syntax.specs.declared.tree.definition.Field.{Field}
use Rattle.ttcn_syntax.specs.declared.tree.definition.Member.{Member}
use Rattle.ttcn_syntax.specs.declared.tree.definition.Member.TheVariants as member
use Rattle.ttcn_syntax.specs.declared.tree.definition.TemplateDefinition.{TemplateDefinition}
use Rattle.ttcn_syntax.specs.declared.tree.statement.Constant.{Constant}
use Rattle.ttcn_syntax.specs.declared.tree.value.TypeName.{TypeName}
use Rattle.ttcn_syntax.specs.declared.tree.value.TypeName.TheVariants as type_name
use Rattle.check_scope.specs.declared.names.Meaning.{Meaning}
use Rattle.check_scope.specs.declared.names.Meaning.TheVariants as meaning
use Rattle.check_scope.specs.declared.types.DataType.{DataType}
use Rattle.check_scope.specs.declared.types.DataType.TheVariants as type

-- for each name what it stands for, if it is visible
abbrev pub Names : Type 0
Names = List ℕ → Option Meaning

-- a name with what it stands for
abbrev pub Entry : Type 0
Entry = List ℕ × Meaning

-- what entries say of a name: of several with this name the last one counts
abbrev pub listed : List Entry → Names
listed [] name = None
listed (entry ∷ entries) name = option_or (listed entries name) (if bytes_eq entry.0 name then Some entry.1 else None)

-- names behind a declaration: those before it, unless it declares one of this name
abbrev pub behind : Names → List Entry → Names
behind names entries name = option_or (listed entries name) (names name)

-- ---- the names of the module

-- the constants of a declaration of the module, from a position in it on
abbrev pub constant_entries : ℕ → ℕ → List Constant → List Entry
constant_entries at item [] = []
constant_entries at item (constant ∷ constants) = (constant.name, meaning.ModuleConstant at item) ∷ constant_entries at (item + 1) constants

-- what the definition at a position defines: its own name, the constants of a declaration, an enumeration's names too
abbrev pub entries_at : ℕ → DefinitionKind → List Entry
entries_at at (kind.Record r) = (r.name, meaning.Record at) ∷ []
entries_at at (kind.Enumerated e) = (e.name, meaning.Enumerated at) ∷ map (λ n. (n.name, meaning.Enumerator at)) e.enumerators
entries_at at (kind.Port p) = (p.name, meaning.PortType at) ∷ []
entries_at at (kind.Component c) = (c.name, meaning.Component at) ∷ []
entries_at at (kind.Constants cs) = constant_entries at 0 cs.constants
entries_at at (kind.Template t) = (t.name, meaning.Template at) ∷ []
entries_at at (kind.Function f) = (f.name, meaning.Function at) ∷ []
entries_at at (kind.Altstep a) = (a.name, meaning.Altstep at) ∷ []
entries_at at (kind.Testcase t) = (t.name, meaning.Testcase at) ∷ []

-- what definitions define, from a position on
abbrev pub entries_from : ℕ → List Definition → List Entry
entries_from at [] = []
entries_from at (definition ∷ definitions) = entries_at at definition.kind ++ entries_from (at + 1) definitions

-- the names that are visible in the whole module
abbrev pub module_names : List Definition → Names
module_names definitions = listed (entries_from 0 definitions)

-- ---- types

-- the type that a name stands for: a record, an enumeration or a component type
abbrev pub type_meant : Option Meaning → Option DataType
type_meant (Some (meaning.Record at)) = Some (type.Record at)
type_meant (Some (meaning.Enumerated at)) = Some (type.Enumerated at)
type_meant (Some (meaning.Component at)) = Some (type.Component at)
type_meant _ = None

-- the type that a type's name stands for: a built-in type, or what the names say of a type that is defined
abbrev pub resolved : Names → TypeName → Option DataType
resolved names type_name.Integer = Some type.Integer
resolved names type_name.Boolean = Some type.Boolean
resolved names type_name.Default = Some type.Default
resolved names (type_name.Named name) = type_meant (names name)

-- the position of the component type that a name stands for
abbrev pub component_meant : Option Meaning → Option ℕ
component_meant (Some (meaning.Component at)) = Some at
component_meant _ = None

-- the position of the port type that a name stands for
abbrev pub port_type_meant : Option Meaning → Option ℕ
port_type_meant (Some (meaning.PortType at)) = Some at
port_type_meant _ = None

-- what is defined at a position
abbrev pub kind_at : List Definition → ℕ → Option DefinitionKind
kind_at definitions at = option_map (λ definition. definition.kind) (slice_get definitions at)

-- the fields of a record type, none of any other definition
abbrev pub fields_of : Option DefinitionKind → List Field
fields_of (Some (kind.Record r)) = r.fields
fields_of _ = []

-- the fields of the record that stands at a position
abbrev pub fields_at : List Definition → ℕ → List Field
fields_at definitions at = fields_of (kind_at definitions at)

-- the field of a name
abbrev pub field_named : List ℕ → List Field → Option Field
field_named name = find (λ field. bytes_eq field.name name)

-- the type of constants of the module
abbrev pub constants_type : Names → Option DefinitionKind → Option DataType
constants_type names (Some (kind.Constants cs)) = resolved names cs.type_name
constants_type names _ = None

-- the constant at a place of a declaration of constants, if the definition is one and has such a place
abbrev pub constant_of : Option DefinitionKind → ℕ → Option Constant
constant_of (Some (kind.Constants cs)) item = slice_get cs.constants item
constant_of _ item = None

-- the constant at a place of the declaration that stands at a position
abbrev pub constant_at : List Definition → ℕ → ℕ → Option Constant
constant_at definitions at item = constant_of (kind_at definitions at) item

-- the template that a definition defines, if it defines one
abbrev pub template_of : Option DefinitionKind → Option TemplateDefinition
template_of (Some (kind.Template t)) = Some t
template_of _ = None

-- the template that stands at a position
abbrev pub template_at : List Definition → ℕ → Option TemplateDefinition
template_at definitions at = template_of (kind_at definitions at)

-- ---- component types

-- what a declaration of a component type declares, where the names before it are these
abbrev pub member_entries : Names → Member → List Entry
member_entries names (member.Ports port_type ports) = map (λ name. (name, meaning.Port (port_type_meant (names port_type)))) ports
member_entries names (member.Constants cs) = map (λ c. (c.name, meaning.Constant (resolved names cs.type_name))) cs.constants
member_entries names (member.Variables of variables) = map (λ v. (v.name, meaning.Variable (resolved names of))) variables
member_entries names (member.Timers timers) = map (λ t. (t.name, meaning.Timer)) timers

-- the names behind declarations of a component type
abbrev pub behind_members : Names → List Member → Names
behind_members names [] = names
behind_members names (member ∷ members) = behind_members (behind names (member_entries names member)) members

-- the declarations of a component type
abbrev pub members_of : Option DefinitionKind → List Member
members_of (Some (kind.Component c)) = c.members
members_of _ = []

-- the names that are visible in behaviours that run on the component type at a position
abbrev pub names_on : List Definition → ℕ → Names
names_on definitions at = behind_members (module_names definitions) (members_of (kind_at definitions at))

-- ---- where a construct stands

-- the module, the names that are visible, and the component type that `self` is of
pub record Scope : Type 0 where
  pub definitions : List Definition
  pub names : Names
  pub itself : Option ℕ

-- the scope behind a declaration
abbrev pub declaring : Scope → List Entry → Scope
declaring scope entries = record { definitions = scope.definitions; names = behind scope.names entries; itself = scope.itself }

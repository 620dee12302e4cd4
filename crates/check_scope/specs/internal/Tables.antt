-- What tables say of names, and of numbers.
use Rattle.std.specs.Prelude.{ℕ, Bool, List, [], ◌∷◌, Option, Some, None, bytes_eq}
use Rattle.std.specs.HashMap.{get_by}
use Rattle.std.specs.HashSet.{contains_by}
use Rattle.std.specs.List.{slice_get}
use Rattle.std.specs.Option.{option_map, option_or}
use Rattle.ttcn_syntax.specs.declared.tree.definition.Field.{Field}
use Rattle.check_scope.specs.Names.{Names}
use Rattle.check_scope.specs.declared.field_table.FieldTable.{FieldTable}
use Rattle.check_scope.specs.declared.name_set.NameSet.{NameSet}
use Rattle.check_scope.specs.declared.table.Table.{Table}

-- what a table says of a name
abbrev pub said : Table → Names
said table name = get_by (λ key. bytes_eq name key.now) table.meanings

-- what tables say of a name: of several that have it the last one counts
abbrev pub said_in : List Table → Names
said_in [] name = None
said_in (table ∷ tables) name = option_or (said_in tables name) (said table name)

-- what a table says of a name, where there is one
abbrev pub said_by : Option Table → Names
said_by None name = None
said_by (Some table) name = said table name

-- what the members of a component type say of a name
abbrev pub member : List Table → Option ℕ → Names
member tables None name = None
member tables (Some at) name = said_by (slice_get tables at) name

-- what is said within says more than what is said round it
abbrev pub either : Names → Names → Names
either inner outer name = option_or (inner name) (outer name)

-- the field that a table has under a name
abbrev pub field_in : FieldTable → List ℕ → Option Field
field_in table name = option_map (λ field. field.now) (get_by (λ key. bytes_eq name key.now) table.fields)

-- the field that a table has under a name, where there is a table
abbrev pub field_by : Option FieldTable → List ℕ → Option Field
field_by None name = None
field_by (Some table) name = field_in table name

-- names have one among them
abbrev pub has : NameSet → List ℕ → Bool
has set name = contains_by (λ key. bytes_eq name key.now) set.names

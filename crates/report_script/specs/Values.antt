-- Which values of a module's types JSON gives (ES 201 873-1, 6).
use Rattle.std.specs.Prelude.{ℕ, Bool, true, false, List, [], ◌∷◌, Option, Some, None, bytes_eq, is_some, if◌then◌else◌}
use Rattle.std.specs.List.{find, list_all, position}
use Rattle.std.specs.Option.{option_and_then, option_map}
use Rattle.serde_json.specs.Data.{Num, Data, null, boolean, number, string, array, object, Members, no_members, member}
use Rattle.serde_json.specs.Find.{as_i64}
use Rattle.ttcn_syntax.specs.declared.tree.definition.Definition.{Definition}
use Rattle.ttcn_syntax.specs.declared.tree.definition.Field.{Field}
use Rattle.check_rules.specs.Values.{field_target}
use Rattle.check_scope.specs.Names.{field_named, fields_at, kind_at}
use Rattle.check_scope.specs.declared.types.DataType.{DataType}
use Rattle.check_scope.specs.declared.types.DataType.TheVariants as type
use Rattle.check_scope.specs.declared.types.Target.{Target}
use Rattle.value_types.specs.Readings.{enumerators_of}
use Rattle.value_types.specs.declared.value.Value.{Value}
use Rattle.value_types.specs.declared.value.Value.TheVariants as value

-- what JSON gives in a module where a value goes to a target, if it gives one
abbrev pub Given : Type 0
Given = List Definition → Target → Option Value

-- ---- values that have no parts

-- a number where an integer is wanted: one of 64 bits that is written as an integer
abbrev pub integer_given : Num → Option DataType → Option Value
integer_given n (Some type.Integer) = option_map value.Integer (as_i64 n)
integer_given n _ = None

-- `true` or `false` where a boolean is wanted
abbrev pub boolean_given : Bool → Option DataType → Option Value
boolean_given b (Some type.Boolean) = Some (value.Boolean b)
boolean_given b _ = None

-- the value of an enumeration that has this name
abbrev pub enumerator_given : List Definition → ℕ → List ℕ → Option Value
enumerator_given definitions at name =
    option_map (value.Enumerated at) (position (λ e. bytes_eq e.name name) (enumerators_of (kind_at definitions at)))

-- a text where a value of an enumeration is wanted: its name
abbrev pub name_given : List Definition → List ℕ → Option DataType → Option Value
name_given definitions name (Some (type.Enumerated at)) = enumerator_given definitions at name
name_given definitions name _ = None

-- nothing, or `null`, where a value may be omitted
abbrev pub omitted : Bool → Option Value
omitted true = Some value.Omit
omitted false = None

-- ---- records

-- what the members of an object give, each with its name
abbrev pub Parts : Type 0
Parts = List (List ℕ × Given)

-- what the member of a name gives, if there is one
abbrev pub part_named : List ℕ → Parts → Option Given
part_named name parts = option_map (λ part. part.1) (find (λ part. bytes_eq name part.0) parts)

-- what a member gives for a field; a field without a member is omitted, where it may be
abbrev pub field_given : List Definition → Field → Option Given → Option Value
field_given definitions field None = omitted field.optional
field_given definitions field (Some given) = given definitions (field_target definitions field)

-- what members give for fields, in the order of the fields, if they give a value for each
abbrev pub fields_given : List Definition → Parts → List Field → Option (List (Option Value))
fields_given definitions parts [] = Some []
fields_given definitions parts (field ∷ fields) =
    option_and_then (λ v. option_map (λ vs. Some v ∷ vs) (fields_given definitions parts fields))
    (field_given definitions field (part_named field.name parts))

-- each member has the name of a field
abbrev pub are_fields : Parts → List Field → Bool
are_fields parts fields = list_all (λ part. is_some (field_named part.0 fields)) parts

-- a record of the type at a position
abbrev pub record_at : List Definition → Parts → ℕ → Option Value
record_at definitions parts at =
    if are_fields parts (fields_at definitions at) then option_map (value.Record at) (fields_given definitions parts (fields_at definitions at)) else None

-- an object where a record is wanted: each member is a field of it, and each field that may not be omitted has a member
abbrev pub record_given : List Definition → Parts → Option DataType → Option Value
record_given definitions parts (Some (type.Record at)) = record_at definitions parts at
record_given definitions parts _ = None

-- ---- all values

abbrev mutual
  -- what JSON gives: no component, default or `null`, and no float
  pub value_given : Data → Given
  value_given null definitions target = omitted target.optional
  value_given (boolean b) definitions target = boolean_given b target.data_type
  value_given (number n) definitions target = integer_given n target.data_type
  value_given (string s) definitions target = name_given definitions s target.data_type
  value_given (array ds) definitions target = None
  value_given (object ms) definitions target = record_given definitions (parts_given ms) target.data_type

  -- what the members of an object give
  pub parts_given : Members → Parts
  parts_given no_members = []
  parts_given (member name d ms) = (name, value_given d) ∷ parts_given ms

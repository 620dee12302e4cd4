-- The value of what stands where a value of a type is wanted: an expression, `omit`, or a record literal (ES 201 873-1, 5.4 and 6.2).
use Rattle.std.specs.Prelude.{ℕ, List, map, Option, Some, None, bytes_eq, length, nat_eq, if◌then◌else◌}
use Rattle.std.specs.List.{find, zip}
use Rattle.ttcn_syntax.specs.declared.tree.definition.Field.{Field}
use Rattle.ttcn_syntax.specs.declared.tree.value.FieldValue.{FieldValue, fold-FieldValue}
use Rattle.ttcn_syntax.specs.declared.tree.value.Value.{fold-Value}
use Rattle.ttcn_syntax.specs.declared.tree.value.Value as written
use Rattle.ttcn_syntax.specs.declared.tree.value.Value.TheOpen.{FieldValue-F, Value-F}
use Rattle.check_scope.specs.Names.{fields_at, module_names, resolved}
use Rattle.check_scope.specs.declared.types.DataType.{DataType}
use Rattle.check_scope.specs.declared.types.DataType.TheVariants as type
use Rattle.value_types.specs.Evaluation.{value_of}
use Rattle.value_types.specs.Outcomes.{Fails, Outcome, Yields, each, outcome_map, unmet}
use Rattle.value_types.specs.Readings.{Reading}
use Rattle.value_types.specs.declared.value.Value.{Value}
use Rattle.value_types.specs.declared.value.Value.TheVariants as value

-- what something gives in a reading, where a value of a type is wanted
abbrev pub Wanted : Type 0
Wanted = Reading → Option DataType → Outcome Value

-- ---- the record that is wanted

-- the position of the record that is wanted
abbrev pub wanted_record : Option DataType → Outcome ℕ
wanted_record (Some (type.Record at)) = Yields at
wanted_record _ = unmet

-- the type of a field
abbrev pub type_of_field : Reading → Field → Option DataType
type_of_field reading field = resolved (module_names reading.definitions) field.type_name

-- ---- elements by the order of the fields

-- what an element gives for a field
abbrev pub element : Reading → Field × Wanted → Outcome (Option Value)
element reading pair = outcome_map Some (pair.1 reading (type_of_field reading pair.0))

-- each field has its element
abbrev pub in_order : Reading → List Field → List Wanted → Outcome (List (Option Value))
in_order reading fields elements =
    if nat_eq (length elements) (length fields) then each (map (element reading) (zip fields elements)) else unmet

-- ---- elements by the names of the fields

-- what the element of a field's name gives for it: without one the field has no value
abbrev pub element_named : Reading → Field → Option (List ℕ × Wanted) → Outcome (Option Value)
element_named reading field None = Yields None
element_named reading field (Some found) = element reading (field, found.1)

-- what named elements give for a field
abbrev pub given_by_name : Reading → List (List ℕ × Wanted) → Field → Outcome (Option Value)
given_by_name reading elements field = element_named reading field (find (λ e. bytes_eq e.0 field.name) elements)

-- what named elements give for each field, in the order of the fields
abbrev pub by_name : Reading → List Field → List (List ℕ × Wanted) → Outcome (List (Option Value))
by_name reading fields elements = each (map (given_by_name reading elements) fields)

-- ---- values

-- a record of the type at a position with what its fields give, where both are there
abbrev pub record_at : Outcome ℕ → (ℕ → Outcome (List (Option Value))) → Outcome Value
record_at (Fails why) fields = Fails why
record_at (Yields at) fields = outcome_map (value.Record at) (fields at)

-- what one level of a value gives where a type is wanted, given what its elements give
abbrev pub value_step : Value-F Wanted (List ℕ × Wanted) → Wanted
value_step (Value-F.Expr e) reading wanted = value_of e reading
value_step Value-F.Omit reading wanted = Yields value.Omit
value_step (Value-F.Listed elements) reading wanted =
    record_at (wanted_record wanted) (λ at. in_order reading (fields_at reading.definitions at) elements)
value_step (Value-F.Assigned elements) reading wanted =
    record_at (wanted_record wanted) (λ at. by_name reading (fields_at reading.definitions at) elements)

-- an element of a record literal by field names: the name, with what its value gives, which is given
abbrev pub field_value_step : FieldValue-F Wanted (List ℕ × Wanted) → List ℕ × Wanted
field_value_step e = (e.name, e.value)

-- what is given by what stands where a value of a type is wanted
abbrev pub value_wanted : written.Value → Wanted
value_wanted = fold-Value Wanted (List ℕ × Wanted) value_step field_value_step

-- the name of an element, with what its value gives
abbrev pub field_value : FieldValue → List ℕ × Wanted
field_value = fold-FieldValue Wanted (List ℕ × Wanted) value_step field_value_step

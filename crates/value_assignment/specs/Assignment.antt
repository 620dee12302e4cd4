-- Assignment to a name, or to a field of the record that it stands for (ES 201 873-1, 6.2.1 and 19.1).
use Rattle.std.specs.Prelude.{ℕ, List, [], ◌∷◌, map, Option, Some, None, bytes_eq, slice_get, slice_set, if◌then◌else◌}
use Rattle.std.specs.List.{position}
use Rattle.ttcn_syntax.specs.declared.tree.definition.Definition.{Definition}
use Rattle.ttcn_syntax.specs.declared.tree.definition.Field.{Field}
use Rattle.check_scope.specs.Names.{fields_at, module_names, resolved}
use Rattle.check_scope.specs.declared.types.DataType.{DataType}
use Rattle.check_scope.specs.declared.types.DataType.TheVariants as type
use Rattle.value_assignment.specs.declared.record.Gap.{Gap}
use Rattle.value_types.specs.Outcomes.{Outcome, or_unmet, outcome_and_then, outcome_map, unmet}
use Rattle.value_types.specs.Outcomes.Outcome.{Yields}
use Rattle.value_types.specs.Values.{is_omit, record_of}
use Rattle.value_types.specs.declared.value.Value.{Value}
use Rattle.value_types.specs.declared.value.Value.TheVariants as value

-- the position of a record's type, and its fields in order: a field may have no value
abbrev pub Record : Type 0
Record = ℕ × List (Option Value)

-- a record of which no field has a value
abbrev pub blank : List Definition → Option DataType → Outcome Record
blank definitions (Some (type.Record at)) = Yields (at, map (λ field. None) (fields_at definitions at))
blank definitions _ = unmet

-- the record in which a field is assigned: the one that is there, or else one without values
abbrev pub record_for : List Definition → Option DataType → Option Value → Outcome Record
record_for definitions data_type None = blank definitions data_type
record_for definitions data_type (Some v) = if is_omit v then blank definitions data_type else or_unmet (record_of v)

-- a record whose field at a place is taken out of it
abbrev pub gap_in : List Definition → Record → ℕ → Field → Option Value → Gap
gap_in definitions whole place field held = record {
  at = whole.0;
  fields = slice_set whole.1 place None;
  place = place;
  data_type = resolved (module_names definitions) field.type_name;
  held = held;
}

-- a record whose field at a place is taken out of it, where a field stands at the place
abbrev pub gap_at_place : List Definition → Record → ℕ → Outcome Gap
gap_at_place definitions whole place =
    outcome_and_then (λ field. outcome_map (gap_in definitions whole place field) (or_unmet (slice_get whole.1 place))) (or_unmet (slice_get (fields_at definitions whole.0) place))

-- a record whose field of a name is taken out of it
abbrev pub gap_at_field : List Definition → List ℕ → Record → Outcome Gap
gap_at_field definitions name whole =
    outcome_and_then (gap_at_place definitions whole) (or_unmet (position (λ field. bytes_eq field.name name) (fields_at definitions whole.0)))

-- the record that a name of a type holds, or else one without values, with the field of a field name taken out of it
abbrev pub gap_for : List Definition → Option DataType → Option Value → List ℕ → Outcome Gap
gap_for definitions data_type held name = outcome_and_then (gap_at_field definitions name) (record_for definitions data_type held)

-- the record with a value in the field that was taken out
abbrev pub filled : Gap → Value → Value
filled whole v = value.Record whole.at (slice_set whole.fields whole.place (Some v))

-- what a name of a type holds after an assignment to it, or to the field of fields behind it
abbrev pub assigned : List Definition → Option DataType → Option Value → List (List ℕ) → Value → Outcome Value
assigned definitions data_type held [] new = Yields new
assigned definitions data_type held (name ∷ names) new =
    outcome_and_then (λ whole. outcome_map (filled whole) (assigned definitions whole.data_type whole.held names new)) (gap_for definitions data_type held name)

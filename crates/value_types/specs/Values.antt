-- Values (ES 201 873-1, 6): when they are equal, what they are, and whether they lack something.
use Rattle.std.specs.Prelude.{ℕ, ℤ, Bool, true, false, List, Option, Some, None}
use Rattle.std.specs.List.{list_all}
use Rattle.value_types.specs.Outcomes.{Outcome, Yields, dynamic_error, unmet}
use Rattle.value_types.specs.contracts.value.ValuePartialEq.TheImpl as equality
use Rattle.value_types.specs.declared.value.ComponentId.{ComponentId}
use Rattle.value_types.specs.declared.value.Value.{Value, fold-Value, out-Value}
use Rattle.value_types.specs.declared.value.Value.TheOpen.{Value-F}

-- `==`, which is true of a value and itself alone
abbrev pub equal : Value → Value → Bool
equal = (equality.ghosts).eq

-- ---- what a value is

-- the integer that the outermost level of a value is, if it is one
abbrev pub integer_in : Value-F Value → Option ℤ
integer_in (Value-F.Integer n) = Some n
integer_in _ = None

-- the integer that a value is
abbrev pub integer : Value → Option ℤ
integer v = integer_in (out-Value v)

-- the boolean that the outermost level of a value is, if it is one
abbrev pub boolean_in : Value-F Value → Option Bool
boolean_in (Value-F.Boolean b) = Some b
boolean_in _ = None

-- the boolean that a value is
abbrev pub boolean : Value → Option Bool
boolean v = boolean_in (out-Value v)

-- the component that the outermost level of a value refers to: a dynamic error for `null`
abbrev pub component_in : Value-F Value → Outcome ComponentId
component_in (Value-F.Component c) = Yields c
component_in Value-F.Null = dynamic_error
component_in _ = unmet

-- the component that a value refers to: `null` refers to none, which is a dynamic error
abbrev pub component : Value → Outcome ComponentId
component v = component_in (out-Value v)

-- the record that the outermost level of a value is, if it is one
abbrev pub record_in : Value-F Value → Option (ℕ × List (Option Value))
record_in (Value-F.Record at fields) = Some (at, fields)
record_in _ = None

-- the position of the type of the record that a value is, and its fields in order: a field may have no value
abbrev pub record_of : Value → Option (ℕ × List (Option Value))
record_of v = record_in (out-Value v)

-- the outermost level of a value is `omit`
abbrev pub is_omit_in : Value-F Value → Bool
is_omit_in Value-F.Omit = true
is_omit_in _ = false

-- a field is omitted
abbrev pub is_omit : Value → Bool
is_omit v = is_omit_in (out-Value v)

-- ---- what a value lacks

-- a field has a value that lacks nothing, given whether its value lacks nothing
abbrev pub has_value : Option Bool → Bool
has_value None = false
has_value (Some complete) = complete

-- one level of a value lacks nothing, given whether the values of its fields lack nothing
abbrev pub complete_step : Value-F Bool → Bool
complete_step (Value-F.Record at fields) = list_all has_value fields
complete_step _ = true

-- no field has no value, however deep: an omitted field lacks nothing
abbrev pub is_complete : Value → Bool
is_complete = fold-Value Bool complete_step

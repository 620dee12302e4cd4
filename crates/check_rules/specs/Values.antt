-- The rules that values break, at what they go to (ES 201 873-1, 5.4, 6.2 and 19.1).
use Rattle.std.specs.Prelude.{ℕ, Bool, true, false, not, ◌&&◌, List, [], ◌∷◌, ◌++◌, length, nat_eq, bytes_eq, Option, Some, None, is_some}
use Rattle.std.specs.List.{list_any}
use Rattle.ttcn_syntax.specs.declared.tree.definition.Definition.{Definition}
use Rattle.ttcn_syntax.specs.declared.tree.definition.Field.{Field}
use Rattle.ttcn_syntax.specs.declared.tree.expression.Expr.{Expr}
use Rattle.ttcn_syntax.specs.declared.tree.value.FieldValue.{FieldValue, fold-FieldValue}
use Rattle.ttcn_syntax.specs.declared.tree.value.Value.{Value, fold-Value}
use Rattle.ttcn_syntax.specs.declared.tree.value.Value.TheOpen.{FieldValue-F, Value-F}
use Rattle.check_rules.specs.Expressions.{expression}
use Rattle.check_scope.specs.Names.{Scope, field_named, fields_at, module_names, resolved}
use Rattle.check_scope.specs.Typings.{fits, unless}
use Rattle.check_scope.specs.declared.rule.Rule.{Rule}
use Rattle.check_scope.specs.declared.rule.Rule.TheVariants as rule
use Rattle.check_scope.specs.declared.types.DataType.{DataType}
use Rattle.check_scope.specs.declared.types.DataType.TheVariants as type
use Rattle.check_scope.specs.declared.types.Target.{Target}
use Rattle.check_scope.specs.Typings.{any_target}

-- ---- what a value goes to

-- a field of a record
abbrev pub field_target : List Definition → Field → Target
field_target definitions field = record { data_type = resolved (module_names definitions) field.type_name; optional = field.optional }

-- a field of a name, and of which nothing is known where no field has it
abbrev pub named_target : List Definition → Option Field → Target
named_target definitions None = any_target
named_target definitions (Some field) = field_target definitions field

-- ---- the fields of the record that is wanted

-- the fields of what is wanted, where it is known to be a record
abbrev pub wanted_fields : List Definition → Option DataType → Option (List Field)
wanted_fields definitions (Some (type.Record at)) = Some (fields_at definitions at)
wanted_fields definitions _ = None

-- braces stand where a record is wanted: not judged where no type is known
abbrev pub takes_braces : Option DataType → Bool
takes_braces None = true
takes_braces (Some (type.Record at)) = true
takes_braces (Some _) = false

-- as many elements as fields: not judged where the fields aren't known
abbrev pub is_full : Option (List Field) → ℕ → Bool
is_full None elements = true
is_full (Some fields) elements = nat_eq elements (length fields)

-- a name is that of a field: not judged where the fields aren't known
abbrev pub is_field : Option (List Field) → List ℕ → Bool
is_field None name = true
is_field (Some fields) name = is_some (field_named name fields)

-- what the element of a name goes to
abbrev pub target_named : List Definition → Option (List Field) → List ℕ → Target
target_named definitions None name = any_target
target_named definitions (Some fields) name = named_target definitions (field_named name fields)

-- what is behind the first field
abbrev pub next_fields : Option (List Field) → Option (List Field)
next_fields None = None
next_fields (Some []) = Some []
next_fields (Some (field ∷ fields)) = Some fields

-- what the first element goes to
abbrev pub first_target : List Definition → Option (List Field) → Target
first_target definitions None = any_target
first_target definitions (Some []) = any_target
first_target definitions (Some (field ∷ fields)) = field_target definitions field

-- ---- values

-- the rules that something breaks in a scope, going to a target
abbrev pub AtTarget : Type 0
AtTarget = Scope → Target → List Rule

-- elements by the order of the fields
abbrev pub in_order : Option (List Field) → List AtTarget → Scope → List Rule
in_order fields [] scope = []
in_order fields (element ∷ elements) scope = element scope (first_target scope.definitions fields) ++ in_order (next_fields fields) elements scope

-- elements by the names of the fields, behind others with these names: each name is that of a field, and of no other element
abbrev pub by_name : Option (List Field) → List (List ℕ) → List (List ℕ × AtTarget) → Scope → List Rule
by_name fields before [] scope = []
by_name fields before (element ∷ elements) scope =
    unless (is_field fields element.0 && not (list_any (bytes_eq element.0) before)) rule.Fields ++
    element.1 scope (target_named scope.definitions fields element.0) ++
    by_name fields (before ++ element.0 ∷ []) elements scope

-- an expression where a value of a type is wanted
abbrev pub check_expression : Scope → Option DataType → Expr → List Rule
check_expression scope wanted e = (expression e scope false).broken ++ unless (fits wanted (expression e scope false).typing) rule.ValueType

-- the rules that one level of a value breaks at a target, its elements' rules given
abbrev pub value_step : Value-F AtTarget (List ℕ × AtTarget) → AtTarget
value_step (Value-F.Expr e) scope target = check_expression scope target.data_type e
value_step Value-F.Omit scope target = unless target.optional rule.Fields
value_step (Value-F.Listed elements) scope target =
    unless (takes_braces target.data_type) rule.ValueType ++
    unless (is_full (wanted_fields scope.definitions target.data_type) (length elements)) rule.Fields ++
    in_order (wanted_fields scope.definitions target.data_type) elements scope
value_step (Value-F.Assigned elements) scope target =
    unless (takes_braces target.data_type) rule.ValueType ++
    by_name (wanted_fields scope.definitions target.data_type) [] elements scope

-- an element of a record value by field names: the name, with the rules of its value, which are given
abbrev pub field_value_step : FieldValue-F AtTarget (List ℕ × AtTarget) → List ℕ × AtTarget
field_value_step element = (element.name, element.value)

-- the rules that a value breaks
abbrev pub value : Value → AtTarget
value = fold-Value AtTarget (List ℕ × AtTarget) value_step field_value_step

-- the name of an element, with the rules that its value breaks
abbrev pub field_value : FieldValue → List ℕ × AtTarget
field_value = fold-FieldValue AtTarget (List ℕ × AtTarget) value_step field_value_step

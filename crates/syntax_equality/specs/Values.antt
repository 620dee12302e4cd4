-- Values, calls, types and what stands on the right of `:=` that `==` finds equal are one.
use Rattle.std.proofs.Common.{◌≡◌, Bool, true, sym, ap, subst, ◌∙◌}
use Rattle.std.proofs.lemmas.Bool.{and_parts}
use Rattle.std.specs.Cmp.Lexicographic.{pointwise}
use Rattle.syntax_equality.specs.Equality.{IsOne, Known, OneAt, known_list_one, last, list_one, name_one, none, tests_of, variant_one}
use Rattle.syntax_equality.specs.Expressions.{expression_one}
use Rattle.ttcn_syntax.specs.contracts.tree.expression.ExprPartialEq.TheImpl as expressions
use Rattle.ttcn_syntax.specs.contracts.tree.value.CallPartialEq.TheImpl as calls
use Rattle.ttcn_syntax.specs.contracts.tree.value.FieldValuePartialEq.TheImpl as fields
use Rattle.ttcn_syntax.specs.contracts.tree.value.FieldValuePartialEq.TheImpl.Laws as of_fields
use Rattle.ttcn_syntax.specs.contracts.tree.value.Rhs.{enum as right_enum}
use Rattle.ttcn_syntax.specs.contracts.tree.value.RhsPartialEq.TheImpl as rights
use Rattle.ttcn_syntax.specs.contracts.tree.value.TypeName.{enum as type_enum}
use Rattle.ttcn_syntax.specs.contracts.tree.value.TypeNamePartialEq.TheImpl as types
use Rattle.ttcn_syntax.specs.contracts.tree.value.Value.{enum as value_enum}
use Rattle.ttcn_syntax.specs.contracts.tree.value.ValuePartialEq.TheImpl as values
use Rattle.ttcn_syntax.specs.contracts.tree.value.ValuePartialEq.TheImpl.Laws as of_values
use Rattle.ttcn_syntax.specs.declared.tree.value.Call.{Call}
use Rattle.ttcn_syntax.specs.declared.tree.value.FieldValue.{FieldValue, out-FieldValue, roll-FieldValue, roll-out-FieldValue}
use Rattle.ttcn_syntax.specs.declared.tree.value.Rhs.{Rhs}
use Rattle.ttcn_syntax.specs.declared.tree.value.Rhs.TheVariants as right
use Rattle.ttcn_syntax.specs.declared.tree.value.TypeName.{TypeName}
use Rattle.ttcn_syntax.specs.declared.tree.value.TypeName.TheVariants as type_name
use Rattle.ttcn_syntax.specs.declared.tree.value.Value.{Value, out-roll-Value, roll-Value}
use Rattle.ttcn_syntax.specs.declared.tree.value.Value.TheBlock.{split-Value, the_carrier, the_members, the_sigs}
use Rattle.ttcn_syntax.specs.declared.tree.value.Value.TheFolds.{ind-FieldValue, ind-Value, map-FieldValue, map-Value}
use Rattle.ttcn_syntax.specs.declared.tree.value.Value.TheOpen.{FieldValue-F, Value-F}
use denote.Enum.Compared.{Each}
use denote.Enum.Declared.{Choice}
use denote.Hole.Carrier.{Values}

-- ---- types

type_at : (a : TypeName) → OneAt type_enum.parts (tests_of type_enum (types.ghosts).eq) (type_enum.as_values a)
type_at type_name.Integer = none
type_at type_name.Boolean = none
type_at type_name.Default = none
type_at (type_name.Named name) = last (name_one name)

pub type_one : (a : TypeName) → IsOne TypeName (types.ghosts).eq a
type_one a = variant_one type_enum (tests_of type_enum (types.ghosts).eq) a (type_at a)

-- ---- values and fields: one level, over those that are known to equal themselves alone

-- `==` of values as they are written
abbrev same : Value → Value → Bool
same = (values.ghosts).eq

-- `==` of values of fields, each with the field's name
abbrev same_field : FieldValue → FieldValue → Bool
same_field = (fields.ghosts).eq

-- the tests of each variant of a value
abbrev each : Each Bool value_enum.parts
each = (
  λ a b. (expressions.ghosts).eq a.0 b.0,
  (
    λ a b. true,
    (
      λ a b. pointwise same a.0 b.0,
      (
        λ a b. pointwise same_field a.0 b.0,
        tt,
      ),
    ),
  ),
)

-- one level of a value as its variant, with the values of the variant's fields
abbrev values_of : Value-F Value FieldValue → Choice value_enum.parts
values_of = split-Value (Values the_members the_sigs the_carrier)

-- one level of a value, without what is known of its parts
abbrev bare : Value-F (Known same) (Known same_field) → Value-F Value FieldValue
bare = map-Value (Known same) (Known same_field) Value FieldValue (λ k. k.0) (λ k. k.0)

-- one level of a field's value, without what is known of its parts
abbrev bare_field : FieldValue-F (Known same) (Known same_field) → FieldValue-F Value FieldValue
bare_field = map-FieldValue (Known same) (Known same_field) Value FieldValue (λ k. k.0) (λ k. k.0)

level : (y : Value-F (Known same) (Known same_field)) → OneAt value_enum.parts each (values_of (bare y))
level (Value-F.Expr e) = last (expression_one e)
level Value-F.Omit = none
level (Value-F.Listed values) = last (known_list_one same values)
level (Value-F.Assigned fields) = last (known_list_one same_field fields)

value_step : (x : Value-F Value FieldValue) (y : Value-F (Known same) (Known same_field)) → bare y ≡ x → IsOne Value same (roll-Value x)
value_step x y is-bare b h =
    let at = subst (λ v. OneAt value_enum.parts each (values_of v)) (is-bare ∙ sym (out-roll-Value x)) (level y) in
    variant_one value_enum each (roll-Value x) at b (sym (of_values.is (roll-Value x) b) ∙ h)

field_step : (x : FieldValue-F Value FieldValue) (y : FieldValue-F (Known same) (Known same_field)) → bare_field y ≡ x → IsOne FieldValue same_field (roll-FieldValue x)
field_step x y is-bare = subst (λ v. IsOne FieldValue same_field (roll-FieldValue v)) is-bare (λ b h.
    let p = and_parts _ _ (sym (of_fields.is (roll-FieldValue (bare_field y)) b) ∙ h) in
    let name_is = name_one y.name (out-FieldValue b).name p.0 in
    let value_is = y.value.1 (out-FieldValue b).value p.1 in
    ap roll-FieldValue (λ i. record { name = name_is i; value = value_is i }) ∙ roll-out-FieldValue b)

pub value_one : (a : Value) → IsOne Value same a
value_one = ind-Value (IsOne Value same) (IsOne FieldValue same_field) value_step field_step

pub field_one : (a : FieldValue) → IsOne FieldValue same_field a
field_one = ind-FieldValue (IsOne Value same) (IsOne FieldValue same_field) value_step field_step

-- ---- calls, and what stands on the right of `:=`

pub call_one : (a : Call) → IsOne Call (calls.ghosts).eq a
call_one a b h = let p = and_parts _ _ h in λ i. record { name = name_one a.name b.name p.0 i; arguments = list_one _ value_one a.arguments b.arguments p.1 i }

right_at : (a : Rhs) → OneAt right_enum.parts (tests_of right_enum (rights.ghosts).eq) (right_enum.as_values a)
right_at (right.Value value) = last (value_one value)
right_at (right.Create name) = last (name_one name)
right_at (right.Call call) = last (call_one call)
right_at (right.Activate call) = last (call_one call)

pub right_one : (a : Rhs) → IsOne Rhs (rights.ghosts).eq a
right_one a = variant_one right_enum (tests_of right_enum (rights.ghosts).eq) a (right_at a)

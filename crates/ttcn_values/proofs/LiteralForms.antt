-- What values of the text give, form by form.
use Rattle.std.proofs.Common.{◌≡◌, ℕ, Bool, true, false, if◌then◌else◌, List, [], ◌∷◌, map, Option, Some, None, arith, bytes_eq, length, nat_eq, refl, sym, ap, ◌∙◌}
use Rattle.std.proofs.Math.ListN.{length-map}
use Rattle.std.proofs.lemmas.Bool.Decides.{nat_tests}
use Rattle.std.specs.List.{find, zip}
use Rattle.std.specs.Option.{option_map}
use Rattle.ttcn_syntax.specs.declared.tree.definition.Field.{Field}
use Rattle.ttcn_syntax.specs.declared.tree.expression.Expr.{Expr}
use Rattle.ttcn_syntax.specs.declared.tree.value.FieldValue.{FieldValue, fold_out-FieldValue, out-FieldValue}
use Rattle.ttcn_syntax.specs.declared.tree.value.Value.{Value}
use Rattle.ttcn_syntax.specs.declared.tree.value.Value.TheFolds.{fold-roll-Value}
use Rattle.ttcn_syntax.specs.declared.tree.value.Value.TheOpen.{Value-F}
use Rattle.ttcn_syntax.specs.declared.tree.value.Value.TheVariants as form
use Rattle.check_scope.specs.Names.{fields_at}
use Rattle.check_scope.specs.declared.types.DataType.{DataType}
use Rattle.value_types.specs.Evaluation.{value_of}
use Rattle.value_types.specs.Literals.{Wanted, by_name, element, element_named, field_value, field_value_step, given_by_name, in_order, record_at, type_of_field, value_step, value_wanted, wanted_record}
use Rattle.value_types.specs.Outcomes.{Failure, Fails, Outcome, Yields, each, outcome_map, unmet}
use Rattle.value_types.specs.Readings.{Reading}
use Rattle.value_types.specs.declared.value.Value as values
use Rattle.value_types.specs.declared.value.Value.TheVariants as value

module _ (reading : Reading) (wanted : Option DataType) where
  pub wanted-expr : (e : Expr) → value_wanted (form.Expr e) reading wanted ≡ value_of e reading
  wanted-expr e = ap (λ (f : Wanted). f reading wanted) (ap value_wanted (sym (form.rolls-Expr e)) ∙ fold-roll-Value Wanted (List ℕ × Wanted) value_step field_value_step (Value-F.Expr e))

  pub wanted-omit : value_wanted form.Omit reading wanted ≡ Yields value.Omit
  wanted-omit = ap (λ (f : Wanted). f reading wanted) (ap value_wanted (sym form.rolls-Omit) ∙ fold-roll-Value Wanted (List ℕ × Wanted) value_step field_value_step Value-F.Omit)

  pub wanted-listed : (elements : List Value) → value_wanted (form.Listed elements) reading wanted ≡ record_at (wanted_record wanted) (λ at. in_order reading (fields_at reading.definitions at) (map value_wanted elements))
  wanted-listed elements = ap (λ (f : Wanted). f reading wanted) (ap value_wanted (sym (form.rolls-Listed elements)) ∙ fold-roll-Value Wanted (List ℕ × Wanted) value_step field_value_step (Value-F.Listed elements))

  pub wanted-assigned : (elements : List FieldValue) → value_wanted (form.Assigned elements) reading wanted ≡ record_at (wanted_record wanted) (λ at. by_name reading (fields_at reading.definitions at) (map field_value elements))
  wanted-assigned elements = ap (λ (f : Wanted). f reading wanted) (ap value_wanted (sym (form.rolls-Assigned elements)) ∙ fold-roll-Value Wanted (List ℕ × Wanted) value_step field_value_step (Value-F.Assigned elements))

pub ruleset literal_forms = (wanted-expr, wanted-omit, wanted-listed, wanted-assigned)

-- a literal fails as its elements do
pub assigned-fault : (why : Failure) (reading : Reading) (wanted : Option DataType) (v : Value) (elements es : List FieldValue) (at : ℕ) (fs : List Field) → v ≡ form.Assigned elements → es ≡ elements
    → wanted_record wanted ≡ Yields at → fs ≡ fields_at reading.definitions at → by_name reading fs (map field_value es) ≡ Fails why → value_wanted v reading wanted ≡ Fails why
assigned-fault why reading wanted v elements es at fs is same record-is fields_are none =
    ap (λ x. value_wanted x reading wanted) is ∙ wanted-assigned reading wanted elements
    ∙ ap (λ r. record_at r (λ a. by_name reading (fields_at reading.definitions a) (map field_value elements))) record-is
    ∙ ap (outcome_map (value.Record at)) (ap (λ l. by_name reading l (map field_value elements)) (sym fields_are) ∙ ap (λ l. by_name reading fs (map field_value l)) (sym same) ∙ none)

pub listed-fault : (why : Failure) (reading : Reading) (wanted : Option DataType) (v : Value) (elements es : List Value) (at : ℕ) (fs : List Field) → v ≡ form.Listed elements → es ≡ elements
    → wanted_record wanted ≡ Yields at → fs ≡ fields_at reading.definitions at → in_order reading fs (map value_wanted es) ≡ Fails why → value_wanted v reading wanted ≡ Fails why
listed-fault why reading wanted v elements es at fs is same record-is fields_are none =
    ap (λ x. value_wanted x reading wanted) is ∙ wanted-listed reading wanted elements
    ∙ ap (λ r. record_at r (λ a. in_order reading (fields_at reading.definitions a) (map value_wanted elements))) record-is
    ∙ ap (outcome_map (value.Record at)) (ap (λ l. in_order reading l (map value_wanted elements)) (sym fields_are) ∙ ap (λ l. in_order reading fs (map value_wanted l)) (sym same) ∙ none)

-- what an element gives for its field
pub element-gives : (reading : Reading) (field : Field) (e : Value) (w : Option DataType) (o : Outcome values.Value) → w ≡ type_of_field reading field → value_wanted e reading w ≡ o
    → element reading (field, value_wanted e) ≡ outcome_map Some o
element-gives reading field e w o is gives = ap (outcome_map Some) (sym (ap (value_wanted e reading) is) ∙ gives)

pub at-field : (reading : Reading) (field : Field) (e : Value) (w : Option DataType) (o : Outcome values.Value) → w ≡ type_of_field reading field → value_wanted e reading w ≡ o
    → value_wanted e reading (type_of_field reading field) ≡ o
at-field reading field e w o is gives = sym (ap (value_wanted e reading) is) ∙ gives

-- ---- elements by their order

pub order-is : (reading : Reading) (fields : List Field) (elements : List Value) → length elements ≡ length fields
    → in_order reading fields (map value_wanted elements) ≡ each (map (element reading) (zip fields (map value_wanted elements)))
order-is reading fields elements same =
    let itself : nat_eq (length fields) (length fields) ≡ true = grind (arith, nat_tests) in
    ap (λ n. if nat_eq n (length fields) then each (map (element reading) (zip fields (map value_wanted elements))) else unmet) (length-map elements value_wanted ∙ same)
    ∙ ap (λ b. if b then each (map (element reading) (zip fields (map value_wanted elements))) else unmet) itself

-- ---- elements by names

pub field-value-out : (e : FieldValue) → field_value e ≡ ((out-FieldValue e).name, value_wanted (out-FieldValue e).value)
field-value-out e = fold_out-FieldValue Wanted (List ℕ × Wanted) value_step field_value_step e

-- what is found of the meanings of elements is the meaning of what is found
found-named : (name : List ℕ) (elements : List FieldValue) → find (λ e. bytes_eq e.0 name) (map field_value elements) ≡ option_map field_value (find (λ e. bytes_eq (out-FieldValue e).name name) elements)
found-named name [] = refl
found-named name (e ∷ elements) =
    ap (λ (p : List ℕ × Wanted). if bytes_eq p.0 name then Some (field_value e) else find (λ e. bytes_eq e.0 name) (map field_value elements)) (field-value-out e)
    ∙ go (bytes_eq (out-FieldValue e).name name) (found-named name elements)
  where
    go : (b : Bool) → find (λ e. bytes_eq e.0 name) (map field_value elements) ≡ option_map field_value (find (λ e. bytes_eq (out-FieldValue e).name name) elements)
        → (if b then Some (field_value e) else find (λ e. bytes_eq e.0 name) (map field_value elements))
        ≡ option_map field_value (if b then Some e else find (λ e. bytes_eq (out-FieldValue e).name name) elements)
    go true rest = refl
    go false rest = rest

module _ (reading : Reading) (elements : List FieldValue) (field : Field) where
  given-is : (o : Option FieldValue) → find (λ e. bytes_eq (out-FieldValue e).name field.name) elements ≡ o → given_by_name reading (map field_value elements) field ≡ element_named reading field (option_map field_value o)
  given-is o is = ap (element_named reading field) (found-named field.name elements ∙ ap (option_map field_value) is)

  -- no element has the name
  pub given-none : option_map (λ e. (out-FieldValue e).value) (find (λ e. bytes_eq (out-FieldValue e).name field.name) elements) ≡ None → given_by_name reading (map field_value elements) field ≡ Yields None
  given-none none = go (find (λ e. bytes_eq (out-FieldValue e).name field.name) elements) refl none
    where
      go : (o : Option FieldValue) → find (λ e. bytes_eq (out-FieldValue e).name field.name) elements ≡ o → option_map (λ e. (out-FieldValue e).value) o ≡ None → given_by_name reading (map field_value elements) field ≡ Yields None
      go None is h = given-is None is
      go (Some e) is h = absurd (let x = h in cc)

  -- an element has it
  pub given-some : (v : Value) (o : Outcome values.Value) → option_map (λ e. (out-FieldValue e).value) (find (λ e. bytes_eq (out-FieldValue e).name field.name) elements) ≡ Some v
      → value_wanted v reading (type_of_field reading field) ≡ o → given_by_name reading (map field_value elements) field ≡ outcome_map Some o
  given-some v o some gives = go (find (λ e. bytes_eq (out-FieldValue e).name field.name) elements) refl some
    where
      go : (found : Option FieldValue) → find (λ e. bytes_eq (out-FieldValue e).name field.name) elements ≡ found → option_map (λ e. (out-FieldValue e).value) found ≡ Some v
          → given_by_name reading (map field_value elements) field ≡ outcome_map Some o
      go None is h = absurd (let x = h in cc)
      go (Some e) is h =
          let same : (out-FieldValue e).value ≡ v = cc in
          given-is (Some e) is
          ∙ ap (λ (p : List ℕ × Wanted). element reading (field, p.1)) (field-value-out e)
          ∙ ap (λ w. outcome_map Some (value_wanted w reading (type_of_field reading field))) same
          ∙ ap (outcome_map Some) gives

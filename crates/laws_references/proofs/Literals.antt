-- What stands where a value of a type is wanted refers only to what is read.
use Rattle.std.proofs.Common.{ℕ, Bool, true, false, List, [], ◌∷◌, map, length, nat_eq, bytes_eq, Option, Some, None, IfSome, if◌then◌else◌, sym, subst}
use Rattle.std.specs.List.{All, find, zip}
use Rattle.std.proofs.lemmas.List.Elements.{All-cons, All-map, All-nil}
use Rattle.ttcn_syntax.specs.declared.tree.definition.Field.{Field}
use Rattle.ttcn_syntax.specs.declared.tree.value.FieldValue.{FieldValue}
use Rattle.ttcn_syntax.specs.declared.tree.value.Value as written
use Rattle.ttcn_syntax.specs.declared.tree.value.Value.TheFolds.{fold-roll-FieldValue, fold-roll-Value, ind-Value, map-FieldValue, map-Value}
use Rattle.ttcn_syntax.specs.declared.tree.value.Value.TheOpen.{FieldValue-F, Value-F}
use Rattle.check_scope.specs.Names.{fields_at}
use Rattle.check_scope.specs.declared.types.DataType.{DataType}
use Rattle.laws_references.proofs.Expressions.{Gives, expression-gives}
use Rattle.laws_references.proofs.Values.{StateRefersTo, all-of, each-gives, omit-refers, record-refers, zip-last}
use Rattle.laws_references.specs.References.{ReadingRefersTo, RefersTo}
use Rattle.laws_steps.proofs.Found.{found-each}
use Rattle.laws_steps.proofs.Outcomes.{map-yields}
use Rattle.semantics.proofs.Pairs.{All-more}
use Rattle.value_types.specs.Literals.{Wanted, by_name, element, element_named, field_value, field_value_step, given_by_name, in_order, record_at, type_of_field, value_step, value_wanted, wanted_record}
use Rattle.value_types.specs.Outcomes.{Fails, IfYields, Outcome, Yields, each, unmet}
use Rattle.value_types.specs.Readings.{Reading}
use Rattle.value_types.specs.declared.value.ComponentId.{ComponentId}
use Rattle.value_types.specs.declared.value.Value.{Value}
use Rattle.value_types.specs.declared.value.Value.TheVariants as value

-- a choice between what is given and nothing
pub if-unmet : {A : Type 0} (Q : A → Type 0) (b : Bool) (o : Outcome A) → IfYields o Q → IfYields (if b then o else unmet) Q
if-unmet Q true o is = is
if-unmet Q false o is = tt

module _ (P : ComponentId → Type 0) where
  -- it refers only to what is read
  abbrev pub RefersToRead : Wanted → Type 0
  RefersToRead given = (reading : Reading) → ReadingRefersTo P reading → (wanted : Option DataType) → Gives P (given reading wanted)

  abbrev NamedRefers : List ℕ × Wanted → Type 0
  NamedRefers e = RefersToRead e.1

  -- ---- the fields of a record

  module _ (reading : Reading) (is : ReadingRefersTo P reading) where
    abbrev States : Outcome (List (Option Value)) → Type 0
    States o = IfYields o (All (StateRefersTo P))

    element-gives : (pair : Field × Wanted) → RefersToRead pair.1 → IfYields (element reading pair) (StateRefersTo P)
    element-gives pair refers =
        map-yields (RefersTo P) (StateRefersTo P) Some (pair.1 reading (type_of_field reading pair.0)) (λ v of. of) (refers reading is (type_of_field reading pair.0))

    ordered-give : (fields : List Field) (elements : List Wanted) → All RefersToRead elements → States (in_order reading fields elements)
    ordered-give fields elements all =
        if-unmet (All (StateRefersTo P)) (nat_eq (length elements) (length fields)) (each (map (element reading) (zip fields elements)))
        (each-gives (StateRefersTo P) (map (element reading) (zip fields elements))
        (All-map (λ o. IfYields o (StateRefersTo P)) (element reading) (zip fields elements)
        (All-more (λ (pair : Field × Wanted). RefersToRead pair.1) (λ pair. IfYields (element reading pair) (StateRefersTo P)) element-gives (zip fields elements) (zip-last RefersToRead fields elements all))))

    named-gives : (f : Field) (found : Option (List ℕ × Wanted)) → IfSome found NamedRefers → IfYields (element_named reading f found) (StateRefersTo P)
    named-gives f None refers = tt
    named-gives f (Some found) refers = element-gives (f, found.1) refers

    names-give : (fields : List Field) (elements : List (List ℕ × Wanted)) → All NamedRefers elements → States (by_name reading fields elements)
    names-give fields elements all =
        each-gives (StateRefersTo P) (map (given_by_name reading elements) fields)
        (All-map (λ o. IfYields o (StateRefersTo P)) (given_by_name reading elements) fields
        (all-of (λ f. IfYields (given_by_name reading elements f) (StateRefersTo P)) one fields))
      where
        one : (f : Field) → IfYields (given_by_name reading elements f) (StateRefersTo P)
        one f = named-gives f (find (λ e. bytes_eq e.0 f.name) elements) (found-each NamedRefers (λ e. bytes_eq e.0 f.name) elements all)

    record-gives : (wanted : Outcome ℕ) (fields : ℕ → Outcome (List (Option Value))) → ((at : ℕ) → States (fields at)) → Gives P (record_at wanted fields)
    record-gives (Yields at) fields give = map-yields (All (StateRefersTo P)) (RefersTo P) (value.Record at) (fields at) (record-refers P at) (give at)
    record-gives (Fails why) fields give = tt

  -- ---- values

  abbrev Held : Type 0
  Held = (v : written.Value) × RefersToRead (value_wanted v)

  abbrev HeldField : Type 0
  HeldField = (v : FieldValue) × NamedRefers (field_value v)

  all-held : (es : List Held) → All RefersToRead (map value_wanted (map (λ e. e.0) es))
  all-held [] = All-nil RefersToRead
  all-held (e ∷ es) = All-cons RefersToRead (value_wanted e.0) (map value_wanted (map (λ e. e.0) es)) e.1 (all-held es)

  all-named : (es : List HeldField) → All NamedRefers (map field_value (map (λ e. e.0) es))
  all-named [] = All-nil NamedRefers
  all-named (e ∷ es) = All-cons NamedRefers (field_value e.0) (map field_value (map (λ e. e.0) es)) e.1 (all-named es)

  abbrev Level : Value-F written.Value FieldValue → Type 0
  Level x = RefersToRead (value_step (map-Value written.Value FieldValue Wanted (List ℕ × Wanted) value_wanted field_value x))

  value-held : (y : Value-F Held HeldField) → Level (map-Value Held HeldField written.Value FieldValue (λ v. v.0) (λ v. v.0) y)
  value-held (Value-F.Expr e) = λ reading is wanted. expression-gives P e reading is
  value-held Value-F.Omit = λ reading is wanted. omit-refers P
  value-held (Value-F.Listed es) = λ reading is wanted.
      record-gives reading is (wanted_record wanted) (λ at. in_order reading (fields_at reading.definitions at) (map value_wanted (map (λ e. e.0) es)))
      (λ at. ordered-give reading is (fields_at reading.definitions at) (map value_wanted (map (λ e. e.0) es)) (all-held es))
  value-held (Value-F.Assigned es) = λ reading is wanted.
      record-gives reading is (wanted_record wanted) (λ at. by_name reading (fields_at reading.definitions at) (map field_value (map (λ e. e.0) es)))
      (λ at. names-give reading is (fields_at reading.definitions at) (map field_value (map (λ e. e.0) es)) (all-named es))

  abbrev LevelField : FieldValue-F written.Value FieldValue → Type 0
  LevelField x = NamedRefers (field_value_step (map-FieldValue written.Value FieldValue Wanted (List ℕ × Wanted) value_wanted field_value x))

  field-held : (y : FieldValue-F Held HeldField) → LevelField (map-FieldValue Held HeldField written.Value FieldValue (λ v. v.0) (λ v. v.0) y)
  field-held y = y.value.1

  pub value-gives : (v : written.Value) → RefersToRead (value_wanted v)
  value-gives = ind-Value (λ v. RefersToRead (value_wanted v)) (λ v. NamedRefers (field_value v)) (λ x y is.
      subst RefersToRead (sym (fold-roll-Value Wanted (List ℕ × Wanted) value_step field_value_step x))
      (subst Level is (value-held y))) (λ x y is.
      subst NamedRefers (sym (fold-roll-FieldValue Wanted (List ℕ × Wanted) value_step field_value_step x))
      (subst LevelField is (field-held y)))

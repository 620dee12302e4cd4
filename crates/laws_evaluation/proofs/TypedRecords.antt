-- The value of what stands where a value of a type is wanted is of this type: record literals.
use Rattle.std.proofs.Common.{◌≡◌, ℕ, suc, Bool, true, false, ◌&&◌, nat_eq, List, [], ◌∷◌, ◌++◌, map, length, bytes_eq, Option, Some, None, is_some, if◌then◌else◌, refl, sym, ap, subst, ◌∙◌}
use Rattle.std.proofs.lemmas.Bool.{eq-eqb}
use Rattle.std.proofs.lemmas.List.Elements.{All-head, All-tail}
use Rattle.std.specs.Cmp.Lexicographic.{bytes_decides}
use Rattle.std.specs.List.{All, find, zip}
use Rattle.ttcn_syntax.specs.declared.tree.definition.Field.{Field}
use Rattle.ttcn_syntax.specs.declared.tree.value.FieldValue.{FieldValue, fold_out-FieldValue, roll-FieldValue}
use Rattle.ttcn_syntax.specs.declared.tree.value.Value as written
use Rattle.ttcn_syntax.specs.declared.tree.value.Value.TheFolds.{fold-roll-FieldValue, fold-roll-Value, ind-Value, map-FieldValue, map-Value}
use Rattle.ttcn_syntax.specs.declared.tree.value.Value.TheOpen.{FieldValue-F, Value-F}
use Rattle.laws_checker.proofs.Fitting.{are-elements, are-named, same-number}
use Rattle.laws_checker.proofs.Nothing.{kept, nothing-first, nothing-rest}
use Rattle.laws_checker.specs.Laws.{AreElements, AreNamedElements, HasFieldType, IsWhole}
use Rattle.check_scope.specs.Names.{Scope, field_named, fields_at, module_names, resolved}
use Rattle.check_scope.specs.Typings.{unless}
use Rattle.check_rules.specs.Values as checked
use Rattle.check_rules.specs.Values.{AtTarget, field_target}
use Rattle.check_scope.specs.declared.rule.Rule.{Rule}
use Rattle.check_scope.specs.declared.rule.Rule.TheVariants as rule
use Rattle.check_scope.specs.declared.types.DataType.{DataType}
use Rattle.check_scope.specs.declared.types.DataType.TheVariants as type
use Rattle.laws_evaluation.proofs.Demands.{AllIf, Meets, meets-chosen, meets-each, meets-mapped, met-of, wanted-meets, yields-of}
use Rattle.laws_evaluation.proofs.TypedValues.{goes-rolled, nat_eq-refl, with_goes}
use Rattle.value_types.specs.Literals.{Wanted, by_name, element, element_named, field_value, field_value_step, in_order, value_step, value_wanted}
use Rattle.value_types.specs.Outcomes.{IfYields, IsMet, each, outcome_map}
use Rattle.value_types.specs.Readings.{Reading}
use Rattle.laws_evaluation.specs.Types.{FieldsDiffer, FitsIn, HasAll, go_to_fields, goes_to_field, value_goes}
use Rattle.value_types.specs.declared.value.Value.{Value}
use Rattle.value_types.specs.declared.value.Value.TheOpen as level
use Rattle.value_types.specs.declared.value.Value.TheVariants as value

pub true-both : (a b : Bool) → a ≡ true → b ≡ true → (a && b) ≡ true
true-both a b is other = ap (λ c. c && b) is ∙ other

-- ---- values that are known to go where they are judged fine

-- what goes where it breaks no rule
abbrev pub Goes : AtTarget → Wanted → Type 0
Goes judged given = (scope : Scope) (reading : Reading) → IsWhole scope → FieldsDiffer scope.definitions → FitsIn scope reading → (strict : Bool) → AllIf strict scope reading → (t : DataType) (o : Bool)
    → judged scope (record { data_type = Some t; optional = o }) ≡ [] → Meets strict (given reading (Some t)) (λ v. value_goes v scope.definitions (record { data_type = Some t; optional = o }) ≡ true)

abbrev Held : Type 0
Held = (v : written.Value) × Goes (checked.value v) (value_wanted v)

abbrev HeldField : Type 0
HeldField = (v : FieldValue) × Goes (checked.field_value v).1 (field_value v).1

-- the name is one for both
pub same-name : (v : FieldValue) → (checked.field_value v).0 ≡ (field_value v).0
same-name v =
    ap (λ (p : List ℕ × AtTarget). p.0) (fold_out-FieldValue AtTarget (List ℕ × AtTarget) checked.value_step checked.field_value_step v)
    ∙ sym (ap (λ (p : List ℕ × Wanted). p.0) (fold_out-FieldValue Wanted (List ℕ × Wanted) value_step field_value_step v))

module _ (scope : Scope) (reading : Reading) (whole : IsWhole scope) (differ : FieldsDiffer scope.definitions) (fit : FitsIn scope reading) (strict : Bool) (all : AllIf strict scope reading) where
  abbrev GoTo : Field → Option Value → Type 0
  GoTo f state = goes_to_field scope.definitions f (with_goes state) ≡ true

  abbrev GoToAll : List Field → List (Option Value) → Type 0
  GoToAll fs states = go_to_fields scope.definitions fs (map with_goes states) ≡ true

  -- what goes to a field
  goes-known : (judged : AtTarget) (given : Wanted) → Goes judged given → (of : Option DataType) (o : Bool) → is_some of ≡ true → judged scope (record { data_type = of; optional = o }) ≡ []
      → Meets strict (given reading of) (λ v. value_goes v scope.definitions (record { data_type = of; optional = o }) ≡ true)
  goes-known judged given goes None o known nothing = absurd (let e = known in cc)
  goes-known judged given goes (Some t) o known nothing = goes scope reading whole differ fit strict all t o nothing

  element-goes : (judged : AtTarget) (given : Wanted) → Goes judged given → (f : Field) → HasFieldType scope.definitions f → judged scope (field_target scope.definitions f) ≡ []
      → Meets strict (element reading (f, given)) (GoTo f)
  element-goes judged given goes f known nothing =
      subst (λ ds. Meets strict (outcome_map Some (given reading (resolved (module_names ds) f.type_name))) (GoTo f)) (sym fit.definitions)
      (meets-mapped strict (λ v. value_goes v scope.definitions (field_target scope.definitions f) ≡ true) (GoTo f) Some (given reading (resolved (module_names scope.definitions) f.type_name))
      (goes-known judged given goes (resolved (module_names scope.definitions) f.type_name) f.optional known nothing) (λ v is. is))

  -- ---- by the order of the fields

  each-in-order : (fs : List Field) (es : List Held) → All (HasFieldType scope.definitions) fs → AreElements scope fs (map checked.value (map (λ e. e.0) es))
      → Meets strict (each (map (element reading) (zip fs (map value_wanted (map (λ e. e.0) es))))) (GoToAll fs)
  each-in-order [] [] known are = refl
  each-in-order [] (e ∷ es) known are = absurd are
  each-in-order (f ∷ fs) [] known are = absurd are
  each-in-order (f ∷ fs) (e ∷ es) known are =
      meets-each strict (GoTo f) (GoToAll fs) (GoToAll (f ∷ fs)) (element reading (f, value_wanted e.0)) (map (element reading) (zip fs (map value_wanted (map (λ e. e.0) es))))
      (element-goes (checked.value e.0) (value_wanted e.0) e.1 f (All-head (HasFieldType scope.definitions) f fs known) are.0)
      (each-in-order fs es (All-tail (HasFieldType scope.definitions) f fs known) are.1)
      (λ state states first rest. true-both (goes_to_field scope.definitions f (with_goes state)) (go_to_fields scope.definitions fs (map with_goes states)) first rest)

  as-many : (fs : List Field) (es : List Held) → AreElements scope fs (map checked.value (map (λ e. e.0) es)) → length (map value_wanted (map (λ e. e.0) es)) ≡ length fs
  as-many [] [] are = refl
  as-many [] (e ∷ es) are = absurd are
  as-many (f ∷ fs) [] are = absurd are
  as-many (f ∷ fs) (e ∷ es) are = ap suc (as-many fs es are.1)

  -- ---- by the names of the fields

  abbrev OfName : List Field → Field → Type 0
  OfName fields f = field_named f.name fields ≡ Some f

  some-field : (f other : Field) → Some f ≡ Some other → f ≡ other
  some-field f other is = cc

  chosen-goes : (b : Bool) (f : Field) (e : List ℕ × Wanted) (found : Option (List ℕ × Wanted)) → (b ≡ true → Meets strict (element reading (f, e.1)) (GoTo f))
      → Meets strict (element_named reading f found) (GoTo f) → Meets strict (element_named reading f (if b then Some e else found)) (GoTo f)
  chosen-goes true f e found here rest = here refl
  chosen-goes false f e found here rest = rest

  named-goes : (fields : List Field) (before : List (List ℕ)) (es : List HeldField) (f : Field) → HasFieldType scope.definitions f → OfName fields f
      → AreNamedElements scope fields before (map checked.field_value (map (λ e. e.0) es))
      → Meets strict (element_named reading f (find (λ e. bytes_eq e.0 f.name) (map field_value (map (λ e. e.0) es)))) (GoTo f)
  named-goes fields before [] f known own are = refl
  named-goes fields before (e ∷ es) f known own are =
      chosen-goes (bytes_eq (field_value e.0).0 f.name) f (field_value e.0) (find (λ e. bytes_eq e.0 f.name) (map field_value (map (λ e. e.0) es)))
      (λ same. let goes = are.0 in
      let name : (checked.field_value e.0).0 ≡ f.name = same-name e.0 ∙ (bytes_decides (field_value e.0).0 f.name).0 same in
      let is : goes.field ≡ f = some-field goes.field f (sym goes.has_name ∙ ap (λ n. field_named n fields) name ∙ own) in
      element-goes (checked.field_value e.0).1 (field_value e.0).1 e.1 f known (subst (λ g. (checked.field_value e.0).1 scope (field_target scope.definitions g) ≡ []) is goes.fits))
      (named-goes fields (before ++ (checked.field_value e.0).0 ∷ []) es f known own are.1)

  each-by-name : (fields : List Field) (fs : List Field) (es : List HeldField) → All (HasFieldType scope.definitions) fs → All (OfName fields) fs
      → AreNamedElements scope fields [] (map checked.field_value (map (λ e. e.0) es))
      → Meets strict (each (map (λ f. element_named reading f (find (λ e. bytes_eq e.0 f.name) (map field_value (map (λ e. e.0) es)))) fs)) (GoToAll fs)
  each-by-name fields [] es known own are = refl
  each-by-name fields (f ∷ fs) es known own are =
      meets-each strict (GoTo f) (GoToAll fs) (GoToAll (f ∷ fs)) (element_named reading f (find (λ e. bytes_eq e.0 f.name) (map field_value (map (λ e. e.0) es))))
      (map (λ f. element_named reading f (find (λ e. bytes_eq e.0 f.name) (map field_value (map (λ e. e.0) es)))) fs)
      (named-goes fields [] es f (All-head (HasFieldType scope.definitions) f fs known) (All-head (OfName fields) f fs own) are)
      (each-by-name fields fs es (All-tail (HasFieldType scope.definitions) f fs known) (All-tail (OfName fields) f fs own) are)
      (λ state states first rest. true-both (goes_to_field scope.definitions f (with_goes state)) (go_to_fields scope.definitions fs (map with_goes states)) first rest)

  -- ---- record literals

  record-goes : (at : ℕ) (o : Bool) (states : List (Option Value)) → GoToAll (fields_at scope.definitions at) states
      → value_goes (value.Record at states) scope.definitions (record { data_type = Some (type.Record at); optional = o }) ≡ true
  record-goes at o states go =
      ap (λ v. value_goes v scope.definitions (record { data_type = Some (type.Record at); optional = o })) (sym (value.rolls-Record at states))
      ∙ goes-rolled scope.definitions (level.Value-F.Record at states) (record { data_type = Some (type.Record at); optional = o })
      ∙ true-both (nat_eq at at) (go_to_fields scope.definitions (fields_at scope.definitions at) (map with_goes states)) (nat_eq-refl at) go

  listed-goes : (at : ℕ) (o : Bool) (es : List Held) → AreElements scope (fields_at scope.definitions at) (map checked.value (map (λ e. e.0) es))
      → Meets strict (outcome_map (value.Record at) (in_order reading (fields_at reading.definitions at) (map value_wanted (map (λ e. e.0) es))))
      (λ v. value_goes v scope.definitions (record { data_type = Some (type.Record at); optional = o }) ≡ true)
  listed-goes at o es are =
      let elements : List Wanted = map value_wanted (map (λ e. e.0) es) in
      let fields : List Field = fields_at scope.definitions at in
      meets-mapped strict (GoToAll fields) (λ v. value_goes v scope.definitions (record { data_type = Some (type.Record at); optional = o }) ≡ true) (value.Record at) (in_order reading (fields_at reading.definitions at) elements)
      (subst (λ ds. Meets strict (in_order reading (fields_at ds at) elements) (GoToAll fields)) (sym fit.definitions)
      (meets-chosen strict (GoToAll fields) (nat_eq (length elements) (length fields)) (each (map (element reading) (zip fields elements))) (eq-eqb (length elements) (length fields) (as-many fields es are)) (each-in-order fields es (whole.fields at) are)))
      (record-goes at o)

  assigned-goes : (at : ℕ) (o : Bool) (es : List HeldField) → AreNamedElements scope (fields_at scope.definitions at) [] (map checked.field_value (map (λ e. e.0) es))
      → Meets strict (outcome_map (value.Record at) (by_name reading (fields_at reading.definitions at) (map field_value (map (λ e. e.0) es))))
      (λ v. value_goes v scope.definitions (record { data_type = Some (type.Record at); optional = o }) ≡ true)
  assigned-goes at o es are =
      let elements : List (List ℕ × Wanted) = map field_value (map (λ e. e.0) es) in
      let fields : List Field = fields_at scope.definitions at in
      meets-mapped strict (GoToAll fields) (λ v. value_goes v scope.definitions (record { data_type = Some (type.Record at); optional = o }) ≡ true) (value.Record at) (by_name reading (fields_at reading.definitions at) elements)
      (subst (λ ds. Meets strict (by_name reading (fields_at ds at) elements) (GoToAll fields)) (sym fit.definitions)
      (each-by-name fields fields es (whole.fields at) (differ at) are))
      (record-goes at o)

  omit-goes : (t : DataType) (o : Bool) → unless o rule.Fields ≡ [] → value_goes value.Omit scope.definitions (record { data_type = Some t; optional = o }) ≡ true
  omit-goes t o nothing =
      ap (λ v. value_goes v scope.definitions (record { data_type = Some t; optional = o })) (sym value.rolls-Omit)
      ∙ goes-rolled scope.definitions level.Value-F.Omit (record { data_type = Some t; optional = o }) ∙ kept o rule.Fields nothing

-- ---- values

abbrev Level : Value-F written.Value FieldValue → Type 0
Level x = Goes (checked.value_step (map-Value written.Value FieldValue AtTarget (List ℕ × AtTarget) checked.value checked.field_value x))
    (value_step (map-Value written.Value FieldValue Wanted (List ℕ × Wanted) value_wanted field_value x))

listed-held : (es : List Held) (scope : Scope) (reading : Reading) → IsWhole scope → FieldsDiffer scope.definitions → FitsIn scope reading → (strict : Bool) → AllIf strict scope reading → (t : DataType) (o : Bool)
    → checked.value_step (Value-F.Listed (map checked.value (map (λ e. e.0) es))) scope (record { data_type = Some t; optional = o }) ≡ []
    → Meets strict (value_step (Value-F.Listed (map value_wanted (map (λ e. e.0) es))) reading (Some t)) (λ v. value_goes v scope.definitions (record { data_type = Some t; optional = o }) ≡ true)
listed-held es scope reading whole differ fit strict all (type.Record at) o nothing =
    let elements : List AtTarget = map checked.value (map (λ e. e.0) es) in
    let fields : List Field = fields_at scope.definitions at in
    let full : List Rule = unless (nat_eq (length elements) (length fields)) rule.Fields in
    let parts : List Rule = checked.in_order (Some fields) elements scope in
    listed-goes scope reading whole differ fit strict all at o es
    (are-elements scope fields elements (same-number (length elements) (length fields) (kept (nat_eq (length elements) (length fields)) rule.Fields (nothing-first full parts nothing)))
    (nothing-rest full parts nothing))
listed-held es scope reading whole differ fit strict all type.Integer o nothing = absurd (let e = nothing in cc)
listed-held es scope reading whole differ fit strict all type.Boolean o nothing = absurd (let e = nothing in cc)
listed-held es scope reading whole differ fit strict all type.Default o nothing = absurd (let e = nothing in cc)
listed-held es scope reading whole differ fit strict all (type.Enumerated at) o nothing = absurd (let e = nothing in cc)
listed-held es scope reading whole differ fit strict all (type.Component at) o nothing = absurd (let e = nothing in cc)

assigned-held : (es : List HeldField) (scope : Scope) (reading : Reading) → IsWhole scope → FieldsDiffer scope.definitions → FitsIn scope reading → (strict : Bool) → AllIf strict scope reading → (t : DataType) (o : Bool)
    → checked.value_step (Value-F.Assigned (map checked.field_value (map (λ e. e.0) es))) scope (record { data_type = Some t; optional = o }) ≡ []
    → Meets strict (value_step (Value-F.Assigned (map field_value (map (λ e. e.0) es))) reading (Some t)) (λ v. value_goes v scope.definitions (record { data_type = Some t; optional = o }) ≡ true)
assigned-held es scope reading whole differ fit strict all (type.Record at) o nothing =
    assigned-goes scope reading whole differ fit strict all at o es (are-named scope (fields_at scope.definitions at) [] (map checked.field_value (map (λ e. e.0) es)) nothing)
assigned-held es scope reading whole differ fit strict all type.Integer o nothing = absurd (let e = nothing in cc)
assigned-held es scope reading whole differ fit strict all type.Boolean o nothing = absurd (let e = nothing in cc)
assigned-held es scope reading whole differ fit strict all type.Default o nothing = absurd (let e = nothing in cc)
assigned-held es scope reading whole differ fit strict all (type.Enumerated at) o nothing = absurd (let e = nothing in cc)
assigned-held es scope reading whole differ fit strict all (type.Component at) o nothing = absurd (let e = nothing in cc)

value-held : (y : Value-F Held HeldField) → Level (map-Value Held HeldField written.Value FieldValue (λ v. v.0) (λ v. v.0) y)
value-held (Value-F.Expr e) = λ scope reading whole differ fit strict all t o nothing. wanted-meets scope reading whole fit strict all t o e nothing
value-held Value-F.Omit = λ scope reading whole differ fit strict all t o nothing. omit-goes scope reading whole differ fit strict all t o nothing
value-held (Value-F.Listed es) = listed-held es
value-held (Value-F.Assigned es) = assigned-held es

abbrev LevelField : FieldValue-F written.Value FieldValue → Type 0
LevelField x = Goes (checked.field_value_step (map-FieldValue written.Value FieldValue AtTarget (List ℕ × AtTarget) checked.value checked.field_value x)).1
    (field_value_step (map-FieldValue written.Value FieldValue Wanted (List ℕ × Wanted) value_wanted field_value x)).1

field-held : (y : FieldValue-F Held HeldField) → LevelField (map-FieldValue Held HeldField written.Value FieldValue (λ v. v.0) (λ v. v.0) y)
field-held y = y.value.1

-- the value of what breaks no rule where a value of a type is wanted goes there
pub value-typed : (v : written.Value) → Goes (checked.value v) (value_wanted v)
value-typed = ind-Value (λ v. Goes (checked.value v) (value_wanted v)) (λ v. Goes (checked.field_value v).1 (field_value v).1) (λ x y is.
    subst (λ j. Goes j (value_wanted (written.roll-Value x))) (sym (fold-roll-Value AtTarget (List ℕ × AtTarget) checked.value_step checked.field_value_step x))
    (subst (λ g. Goes (checked.value_step (map-Value written.Value FieldValue AtTarget (List ℕ × AtTarget) checked.value checked.field_value x)) g) (sym (fold-roll-Value Wanted (List ℕ × Wanted) value_step field_value_step x))
    (subst Level is (value-held y)))) (λ x y is.
    subst (λ (j : List ℕ × AtTarget). Goes j.1 (field_value (roll-FieldValue x)).1) (sym (fold-roll-FieldValue AtTarget (List ℕ × AtTarget) checked.value_step checked.field_value_step x))
    (subst (λ (g : List ℕ × Wanted). Goes (checked.field_value_step (map-FieldValue written.Value FieldValue AtTarget (List ℕ × AtTarget) checked.value checked.field_value x)).1 g.1) (sym (fold-roll-FieldValue Wanted (List ℕ × Wanted) value_step field_value_step x))
    (subst LevelField is (field-held y))))

pub values_typed : (v : written.Value) (scope : Scope) (reading : Reading) → IsWhole scope → FieldsDiffer scope.definitions → FitsIn scope reading → (t : DataType) (o : Bool)
    → checked.value v scope (record { data_type = Some t; optional = o }) ≡ []
    → IfYields (value_wanted v reading (Some t)) (λ w. value_goes w scope.definitions (record { data_type = Some t; optional = o }) ≡ true)
values_typed v scope reading whole differ fit t o nothing =
    yields-of (λ w. value_goes w scope.definitions (record { data_type = Some t; optional = o }) ≡ true) (value_wanted v reading (Some t)) (value-typed v scope reading whole differ fit false tt t o nothing)

-- it is a value or a dynamic error, where the reading has all
pub values_met : (v : written.Value) (scope : Scope) (reading : Reading) → IsWhole scope → FieldsDiffer scope.definitions → FitsIn scope reading → HasAll scope reading → (t : DataType) (o : Bool)
    → checked.value v scope (record { data_type = Some t; optional = o }) ≡ [] → IsMet (value_wanted v reading (Some t))
values_met v scope reading whole differ fit all t o nothing =
    met-of (λ w. value_goes w scope.definitions (record { data_type = Some t; optional = o }) ≡ true) (value_wanted v reading (Some t)) (value-typed v scope reading whole differ fit true all t o nothing)

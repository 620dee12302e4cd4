-- What JSON gives where a value goes to a target goes there, lacks nothing, and has the type that is wanted.
use Rattle.std.proofs.Common.{◌≡◌, ℕ, ℤ, Bool, true, false, List, [], ◌∷◌, map, Option, Some, None, cond, bytes_eq, length, nat_lt, refl, sym, ap, subst, ◌∙◌}
use Rattle.std.proofs.lemmas.Option.{cond_some}
use Rattle.std.specs.List.{find, list_all, position, position_or_len}
use Rattle.std.specs.Option.{option_and_then, option_map}
use Rattle.serde_json.specs.Data.{Num, Data, null, boolean, number, string, array, object, Members, no_members, member}
use Rattle.serde_json.specs.Find.{as_i64}
use Rattle.ttcn_syntax.specs.declared.tree.definition.Definition.{Definition}
use Rattle.ttcn_syntax.specs.declared.tree.definition.Enumerator.{Enumerator}
use Rattle.ttcn_syntax.specs.declared.tree.definition.Field.{Field}
use Rattle.check_rules.specs.Values.{field_target}
use Rattle.check_scope.specs.Names.{fields_at, kind_at}
use Rattle.check_scope.specs.declared.types.DataType.{DataType}
use Rattle.check_scope.specs.declared.types.DataType.TheVariants as type
use Rattle.check_scope.specs.declared.types.Target.{Target}
use Rattle.laws_evaluation.proofs.TypedRecords.{true-both}
use Rattle.laws_evaluation.proofs.TypedValues.{goes-rolled, level_goes, nat_eq-refl, with_goes}
use Rattle.laws_evaluation.specs.Types.{go_to_fields, goes_to_field, value_goes, wants}
use Rattle.report_script.specs.Values.{Given, Parts, are_fields, boolean_given, enumerator_given, field_given, fields_given, integer_given, name_given, omitted, part_named, parts_given, record_at, record_given, value_given}
use Rattle.semantics.specs.Events.{type_in, type_of}
use Rattle.value_types.specs.Readings.{enumerators_of}
use Rattle.value_types.specs.Values.{complete_step, has_value, is_complete}
use Rattle.value_types.specs.declared.value.Value.{Value, out-roll-Value, roll-Value}
use Rattle.value_types.specs.declared.value.Value.TheFolds.{fold-roll-Value, map-Value}
use Rattle.value_types.specs.declared.value.Value.TheOpen.{Value-F}
use Rattle.value_types.specs.declared.value.Value.TheShapes.{former-Value-Record-1-at-1}
use Rattle.value_types.specs.declared.value.Value.TheVariants as value

-- ---- what is there

pub mapped : {A B : Type 0} (f : A → B) (o : Option A) (y : B) → option_map f o ≡ Some y → (x : A) × (o ≡ Some x) × (f x ≡ y)
mapped f None y is = absurd (let e = is in cc)
mapped f (Some x) y is = (x, refl, cc)

pub followed : {A B : Type 0} (f : A → Option B) (o : Option A) (y : B) → option_and_then f o ≡ Some y → (x : A) × (o ≡ Some x) × (f x ≡ Some y)
followed f None y is = absurd (let e = is in cc)
followed f (Some x) y is = (x, refl, is)

pub allowed : {A : Type 0} (b : Bool) (o : Option A) (y : A) → cond b o None ≡ Some y → (b ≡ true) × (o ≡ Some y)
allowed true o y is = (refl, is)
allowed false o y is = absurd (let e = is in cc)

pub some-same : {A : Type 0} (x y : A) → Some x ≡ Some y → x ≡ y
some-same x y is = cc

no-some : {A B : Type 0} (y : A) → None ≡ Some y → B
no-some y is = absurd (let e = is in cc)

-- ---- values

pub record Stands (definitions : List Definition) (target : Target) (v : Value) : Type 0 where
  pub goes : value_goes v definitions target ≡ true
  pub is_whole : is_complete v ≡ true
  pub is_typed : target.optional ≡ false → type_of v ≡ target.data_type

-- a field, by whether it lacks something
abbrev with_whole : Option Value → Option Bool
with_whole = former-Value-Record-1-at-1.map Value Bool is_complete

rolled : (definitions : List Definition) (target : Target) (x : Value-F Value) → level_goes definitions x target ≡ true → complete_step (map-Value Value Bool is_complete x) ≡ true
    → (target.optional ≡ false → type_in x ≡ target.data_type) → Stands definitions target (roll-Value x)
rolled definitions target x goes complete typed = record {
  goes = goes-rolled definitions x target ∙ goes;
  is_whole = fold-roll-Value Bool complete_step x ∙ complete;
  is_typed = λ present. ap type_in (out-roll-Value x) ∙ typed present;
}

module _ (definitions : List Definition) (target : Target) where
  integer-stands : (z : ℤ) → target.data_type ≡ Some type.Integer → Stands definitions target (value.Integer z)
  integer-stands z is =
      subst (Stands definitions target) (value.rolls-Integer z) (rolled definitions target (Value-F.Integer z) (ap (wants type.Integer) is) refl (λ present. sym is))

  boolean-stands : (b : Bool) → target.data_type ≡ Some type.Boolean → Stands definitions target (value.Boolean b)
  boolean-stands b is =
      subst (Stands definitions target) (value.rolls-Boolean b) (rolled definitions target (Value-F.Boolean b) (ap (wants type.Boolean) is) refl (λ present. sym is))

  enumerated-stands : (at n : ℕ) → target.data_type ≡ Some (type.Enumerated at) → nat_lt n (length (enumerators_of (kind_at definitions at))) ≡ true
      → Stands definitions target (value.Enumerated at n)
  enumerated-stands at n is within =
      subst (Stands definitions target) (value.rolls-Enumerated at n)
      (rolled definitions target (Value-F.Enumerated at n)
      (true-both (wants (type.Enumerated at) target.data_type) (nat_lt n (length (enumerators_of (kind_at definitions at)))) (ap (wants (type.Enumerated at)) is ∙ nat_eq-refl at) within) refl (λ present. sym is))

  omit-stands : target.optional ≡ true → Stands definitions target value.Omit
  omit-stands may =
      subst (Stands definitions target) value.rolls-Omit (rolled definitions target Value-F.Omit may refl (λ present. absurd (let e = sym may ∙ present in cc)))

  record-stands : (at : ℕ) (fields : List (Option Value)) → target.data_type ≡ Some (type.Record at) → go_to_fields definitions (fields_at definitions at) (map with_goes fields) ≡ true
      → list_all has_value (map with_whole fields) ≡ true → Stands definitions target (value.Record at fields)
  record-stands at fields is go whole =
      subst (Stands definitions target) (value.rolls-Record at fields)
      (rolled definitions target (Value-F.Record at fields)
      (true-both (wants (type.Record at) target.data_type) (go_to_fields definitions (fields_at definitions at) (map with_goes fields)) (ap (wants (type.Record at)) is ∙ nat_eq-refl at) go) whole (λ present. sym is))

  -- ---- what has no parts

  integer-given : (n : Num) (t : Option DataType) (v : Value) → target.data_type ≡ t → integer_given n t ≡ Some v → Stands definitions target v
  integer-given n None v is gives = no-some v gives
  integer-given n (Some type.Integer) v is gives = let found = mapped value.Integer (as_i64 n) v gives in subst (Stands definitions target) found.2 (integer-stands found.0 is)
  integer-given n (Some type.Boolean) v is gives = no-some v gives
  integer-given n (Some type.Default) v is gives = no-some v gives
  integer-given n (Some (type.Record at)) v is gives = no-some v gives
  integer-given n (Some (type.Enumerated at)) v is gives = no-some v gives
  integer-given n (Some (type.Component at)) v is gives = no-some v gives

  boolean-given : (b : Bool) (t : Option DataType) (v : Value) → target.data_type ≡ t → boolean_given b t ≡ Some v → Stands definitions target v
  boolean-given b None v is gives = no-some v gives
  boolean-given b (Some type.Integer) v is gives = no-some v gives
  boolean-given b (Some type.Boolean) v is gives = subst (Stands definitions target) (some-same (value.Boolean b) v gives) (boolean-stands b is)
  boolean-given b (Some type.Default) v is gives = no-some v gives
  boolean-given b (Some (type.Record at)) v is gives = no-some v gives
  boolean-given b (Some (type.Enumerated at)) v is gives = no-some v gives
  boolean-given b (Some (type.Component at)) v is gives = no-some v gives

  enumerator-given : (at : ℕ) (name : List ℕ) (v : Value) → target.data_type ≡ Some (type.Enumerated at) → enumerator_given definitions at name ≡ Some v → Stands definitions target v
  enumerator-given at name v is gives =
      let all = enumerators_of (kind_at definitions at) in
      let found = mapped (value.Enumerated at) (position (λ e. bytes_eq e.name name) all) v gives in
      let place = cond_some (nat_lt (position_or_len (λ (e : Enumerator). bytes_eq e.name name) all) (length all)) (position_or_len (λ (e : Enumerator). bytes_eq e.name name) all) found.0 found.1 in
      subst (Stands definitions target) found.2 (enumerated-stands at found.0 is (ap (λ n. nat_lt n (length all)) (sym place.1) ∙ place.0))

  name-given : (name : List ℕ) (t : Option DataType) (v : Value) → target.data_type ≡ t → name_given definitions name t ≡ Some v → Stands definitions target v
  name-given name None v is gives = no-some v gives
  name-given name (Some type.Integer) v is gives = no-some v gives
  name-given name (Some type.Boolean) v is gives = no-some v gives
  name-given name (Some type.Default) v is gives = no-some v gives
  name-given name (Some (type.Record at)) v is gives = no-some v gives
  name-given name (Some (type.Enumerated at)) v is gives = enumerator-given at name v is gives
  name-given name (Some (type.Component at)) v is gives = no-some v gives

  omitted-given : (optional : Bool) (v : Value) → target.optional ≡ optional → omitted optional ≡ Some v → Stands definitions target v
  omitted-given true v is gives = subst (Stands definitions target) (some-same value.Omit v gives) (omit-stands is)
  omitted-given false v is gives = no-some v gives

-- ---- records

-- what is given stands wherever it is given
abbrev Fitting : Given → Type 0
Fitting given = (definitions : List Definition) (target : Target) (v : Value) → given definitions target ≡ Some v → Stands definitions target v

abbrev AllFitting : Parts → Type 0
AllFitting [] = Unit {0}
AllFitting (part ∷ parts) = Fitting part.1 × AllFitting parts

part-case : (b : Bool) (part : List ℕ × Given) (rest : Option (List ℕ × Given)) (given : Given) → Fitting part.1 → (option_map (λ p. p.1) rest ≡ Some given → Fitting given)
    → option_map (λ p. p.1) (cond b (Some part) rest) ≡ Some given → Fitting given
part-case true part rest given here later is = subst Fitting (some-same part.1 given is) here
part-case false part rest given here later is = later is

part-fits : (name : List ℕ) (parts : Parts) (given : Given) → AllFitting parts → part_named name parts ≡ Some given → Fitting given
part-fits name [] given all is = no-some given is
part-fits name (part ∷ parts) given all is =
    part-case (bytes_eq name part.0) part (find (λ p. bytes_eq name p.0) parts) given all.0 (part-fits name parts given all.1) is

field-fits : (definitions : List Definition) (field : Field) (o : Option Given) (v : Value) → ((given : Given) → o ≡ Some given → Fitting given) → field_given definitions field o ≡ Some v
    → Stands definitions (field_target definitions field) v
field-fits definitions field None v all gives = omitted-given definitions (field_target definitions field) field.optional v refl gives
field-fits definitions field (Some given) v all gives = all given refl definitions (field_target definitions field) v gives

record AreFields (definitions : List Definition) (fields : List Field) (values : List (Option Value)) : Type 0 where
  go : go_to_fields definitions fields (map with_goes values) ≡ true
  are_whole : list_all has_value (map with_whole values) ≡ true

no-fields : (definitions : List Definition) → AreFields definitions [] []
no-fields definitions = record { go = refl; are_whole = refl }

more-fields : (definitions : List Definition) (field : Field) (fields : List Field) (v : Value) (values : List (Option Value)) → Stands definitions (field_target definitions field) v → AreFields definitions fields values
    → AreFields definitions (field ∷ fields) (Some v ∷ values)
more-fields definitions field fields v values first rest = record {
  go = true-both (goes_to_field definitions field (with_goes (Some v))) (go_to_fields definitions fields (map with_goes values)) first.goes rest.go;
  are_whole = true-both (has_value (with_whole (Some v))) (list_all has_value (map with_whole values)) first.is_whole rest.are_whole;
}

fields-fit : (definitions : List Definition) (parts : Parts) (fields : List Field) (values : List (Option Value)) → AllFitting parts → fields_given definitions parts fields ≡ Some values
    → AreFields definitions fields values
fields-fit definitions parts [] values all gives = subst (AreFields definitions []) (some-same [] values gives) (no-fields definitions)
fields-fit definitions parts (field ∷ fields) values all gives =
    let found = followed (λ v. option_map (λ vs. Some v ∷ vs) (fields_given definitions parts fields)) (field_given definitions field (part_named field.name parts)) values gives in
    let rest = mapped (λ vs. Some found.0 ∷ vs) (fields_given definitions parts fields) values found.2 in
    subst (AreFields definitions (field ∷ fields)) rest.2
    (more-fields definitions field fields found.0 rest.0
    (field-fits definitions field (part_named field.name parts) found.0 (λ given is. part-fits field.name parts given all is) found.1) (fields-fit definitions parts fields rest.0 all rest.1))

record-at : (definitions : List Definition) (target : Target) (parts : Parts) (at : ℕ) (v : Value) → AllFitting parts → target.data_type ≡ Some (type.Record at) → record_at definitions parts at ≡ Some v
    → Stands definitions target v
record-at definitions target parts at v all is gives =
    let may = allowed (are_fields parts (fields_at definitions at)) (option_map (value.Record at) (fields_given definitions parts (fields_at definitions at))) v gives in
    let found = mapped (value.Record at) (fields_given definitions parts (fields_at definitions at)) v may.1 in
    let are = fields-fit definitions parts (fields_at definitions at) found.0 all found.1 in
    subst (Stands definitions target) found.2 (record-stands definitions target at found.0 is are.go are.are_whole)

record-given : (definitions : List Definition) (target : Target) (parts : Parts) (t : Option DataType) (v : Value) → AllFitting parts → target.data_type ≡ t → record_given definitions parts t ≡ Some v
    → Stands definitions target v
record-given definitions target parts None v all is gives = no-some v gives
record-given definitions target parts (Some type.Integer) v all is gives = no-some v gives
record-given definitions target parts (Some type.Boolean) v all is gives = no-some v gives
record-given definitions target parts (Some type.Default) v all is gives = no-some v gives
record-given definitions target parts (Some (type.Record at)) v all is gives = record-at definitions target parts at v all is gives
record-given definitions target parts (Some (type.Enumerated at)) v all is gives = no-some v gives
record-given definitions target parts (Some (type.Component at)) v all is gives = no-some v gives

-- ---- all values

mutual
  pub value-fits : (d : Data) → Fitting (value_given d)
  value-fits null definitions target v gives = omitted-given definitions target target.optional v refl gives
  value-fits (boolean b) definitions target v gives = boolean-given definitions target b target.data_type v refl gives
  value-fits (number n) definitions target v gives = integer-given definitions target n target.data_type v refl gives
  value-fits (string s) definitions target v gives = name-given definitions target s target.data_type v refl gives
  value-fits (array ds) definitions target v gives = no-some v gives
  value-fits (object ms) definitions target v gives = record-given definitions target (parts_given ms) target.data_type v (parts-fit ms) refl gives

  parts-fit : (ms : Members) → AllFitting (parts_given ms)
  parts-fit no_members = tt
  parts-fit (member name d ms) = (value-fits d, parts-fit ms)

-- What a variable holds after an assignment that breaks no rule.
use Rattle.std.proofs.Common.{◌≡◌, ◌≢◌, ℕ, zero, suc, ◌+◌, Bool, true, false, nat_eq, cond, List, [], ◌∷◌, ◌++◌, map, bytes_eq, Option, Some, None, IfSome, if◌then◌else◌, refl, sym, ap, subst, ◌∙◌, arith, slice_set}
use Rattle.std.proofs.lemmas.Bool.{and_parts, eqb-true}
use Rattle.std.proofs.lemmas.Iterator.Adapters.{position_from-zero}
use Rattle.std.specs.List.{All, find, position, position_from, slice_get}
use Rattle.std.specs.Option.{option_and_then}
use Rattle.ttcn_syntax.specs.declared.tree.definition.Definition.{Definition}
use Rattle.ttcn_syntax.specs.declared.tree.definition.Field.{Field}
use Rattle.ttcn_syntax.specs.declared.tree.expression.Reference.{Reference}
use Rattle.ttcn_syntax.specs.declared.tree.value.Value as written
use Rattle.value_assignment.specs.Assignment.{Record, assigned, blank, filled, gap_at_field, gap_at_place, gap_for, gap_in, record_for}
use Rattle.check_rules.specs.Expressions as said
use Rattle.check_rules.specs.Expressions.{check_field, within}
use Rattle.check_rules.specs.Targets.{as_target, check_target, is_optional, last_optional, target_at}
use Rattle.check_rules.specs.Values as checked
use Rattle.check_scope.specs.Names.{Scope, fields_at, module_names, resolved}
use Rattle.check_scope.specs.Typings.{type_known, typed}
use Rattle.check_scope.specs.declared.names.Meaning.TheVariants as meaning
use Rattle.check_scope.specs.declared.types.DataType.{DataType}
use Rattle.check_scope.specs.declared.types.DataType.TheVariants as type
use Rattle.check_scope.specs.declared.types.Target.{Target}
use Rattle.check_scope.specs.declared.types.Typing.{Typing}
use Rattle.check_scope.specs.declared.types.Typing.TheVariants as typing
use Rattle.laws_checker.proofs.Nothing.{nothing-first, nothing-rest}
use Rattle.laws_checker.specs.Laws.{HasFieldType, IsWhole}
use Rattle.laws_evaluation.proofs.MetExpressions.{found-known}
use Rattle.laws_evaluation.proofs.Only.{always-found, always-mapped, always-more, only-always, only-of, only-then}
use Rattle.laws_evaluation.proofs.TypedRecords.{true-both, values_met, values_typed}
use Rattle.laws_evaluation.proofs.TypedValues.{goes-out, goes-rolled, level_goes, nat_eq-refl, with_goes}
use Rattle.laws_evaluation.specs.Types.{FieldsDiffer, FitsIn, HasAll, go_to_fields, goes_to_field, is_of, value_goes}
use Rattle.laws_evaluation.specs.Uses.{GivesAlways, GivesOnly, HoldsAssigned}
use Rattle.value_types.specs.Literals.{value_wanted}
use Rattle.value_types.specs.Outcomes.{Outcome, Yields, dynamic_error, or_unmet, outcome_and_then, outcome_map}
use Rattle.value_types.specs.Readings.{Reading, along, read, state_in, state_of_field}
use Rattle.value_types.specs.Values.{is_omit, is_omit_in, record_in, record_of}
use Rattle.value_types.specs.declared.value.Value.{Value, out-Value, out-roll-Value}
use Rattle.value_types.specs.declared.value.Value.TheOpen.{Value-F}
use Rattle.value_types.specs.declared.value.Value.TheVariants as value

-- a target of a known type
abbrev to : DataType → Bool → Target
to t o = record { data_type = Some t; optional = o }

-- what is set at a place that is there stands there
set-there : {A : Type 0} (xs : List A) (place : ℕ) (held other x : A) → slice_get xs place ≡ Some held → slice_get (slice_set (slice_set xs place other) place x) place ≡ Some x
set-there [] place held other x is = absurd (let e = is in cc)
set-there (y ∷ xs) zero held other x is = refl
set-there (y ∷ xs) (suc place) held other x is = set-there xs place held other x is

-- ---- records

record-is : (at : ℕ) (states : List (Option Value)) → record_of (value.Record at states) ≡ Some (at, states)
record-is at states = ap record_of (sym (value.rolls-Record at states)) ∙ ap record_in (out-roll-Value (Value-F.Record at states))

record-present : (at : ℕ) (states : List (Option Value)) → is_omit (value.Record at states) ≡ false
record-present at states = ap is_omit (sym (value.rolls-Record at states)) ∙ ap is_omit_in (out-roll-Value (Value-F.Record at states))

read-present : (v : Value) → is_omit v ≡ false → read (Some v) ≡ Yields v
read-present v present = ap (λ b. if b then dynamic_error else Yields v) present

module _ (definitions : List Definition) where
  -- a value goes to a type, or may be omitted there
  abbrev GoesTo : DataType → Bool → Value → Type 0
  GoesTo t o v = value_goes v definitions (to t o) ≡ true

  -- what a name holds goes to its type, if it holds a value
  abbrev HoldsFor : DataType → Bool → Option Value → Type 0
  HoldsFor t o held = IfSome held (GoesTo t o)

  -- ---- the place of a field

  -- values go to the fields of a record
  abbrev GoToAll : List Field → List (Option Value) → Type 0
  GoToAll fs states = go_to_fields definitions fs (map with_goes states) ≡ true

  -- a field and what it holds stand at a place among others, which is the first that a test finds
  record StandsThere (test : Field → Bool) (from : ℕ) (fs : List Field) (states : List (Option Value)) (f : Field) : Type 0 where
    place : ℕ
    index : ℕ
    index_is : index ≡ from + place
    is_first : position_from test from fs ≡ Some index
    field_there : slice_get fs place ≡ Some f
    held : Option Value
    held_there : slice_get states place ≡ Some held
    goes : goes_to_field definitions f (with_goes held) ≡ true
    go : (v : Value) → goes_to_field definitions f (with_goes (Some v)) ≡ true → GoToAll fs (slice_set (slice_set states place None) place (Some v))

  some-field : (f g : Field) → Some f ≡ Some g → f ≡ g
  some-field f g is = cc

  first-or-later : (test : Field → Bool) (from : ℕ) (g : Field) (fs : List Field) (s : Option Value) (states : List (Option Value)) (f : Field) → goes_to_field definitions g (with_goes s) ≡ true → GoToAll fs states
      → (find test fs ≡ Some f → StandsThere test (from + 1) fs states f) → (b : Bool) → test g ≡ b → (if b then Some g else find test fs) ≡ Some f → StandsThere test from (g ∷ fs) (s ∷ states) f
  first-or-later test from g fs s states f here others later true passes is =
      let same : g ≡ f = some-field g f is in
      record {
        place = 0;
        index = from;
        index_is = omega arith;
        is_first = ap (λ b. cond b (Some from) (position_from test (from + 1) fs)) passes;
        field_there = ap Some same;
        held = s;
        held_there = refl;
        goes = subst (λ h. goes_to_field definitions h (with_goes s) ≡ true) same here;
        go = λ v goes. true-both (goes_to_field definitions g (with_goes (Some v))) (go_to_fields definitions fs (map with_goes states))
            (subst (λ h. goes_to_field definitions h (with_goes (Some v)) ≡ true) (sym same) goes) others;
      }
  first-or-later test from g fs s states f here others later false passes is =
      let rest : StandsThere test (from + 1) fs states f = later is in
      record {
        place = suc rest.place;
        index = rest.index;
        index_is = omega (arith, rest.index_is);
        is_first = ap (λ b. cond b (Some from) (position_from test (from + 1) fs)) passes ∙ rest.is_first;
        field_there = rest.field_there;
        held = rest.held;
        held_there = rest.held_there;
        goes = rest.goes;
        go = λ v goes. true-both (goes_to_field definitions g (with_goes s)) (go_to_fields definitions fs (map with_goes (slice_set (slice_set states rest.place None) rest.place (Some v))))
            here (rest.go v goes);
      }

  stands-there : (test : Field → Bool) (from : ℕ) (fs : List Field) (states : List (Option Value)) (f : Field) → GoToAll fs states → find test fs ≡ Some f → StandsThere test from fs states f
  stands-there test from [] states f go is = absurd (let e = is in cc)
  stands-there test from (g ∷ fs) [] f go is = absurd (let e = go in cc)
  stands-there test from (g ∷ fs) (s ∷ states) f go is =
      let p = and_parts (goes_to_field definitions g (with_goes s)) (go_to_fields definitions fs (map with_goes states)) go in
      first-or-later test from g fs s states f p.0 p.1 (stands-there test (from + 1) fs states f p.1) (test g) refl is

  -- ---- records

  -- a record that has something in the field at a place
  abbrev with_field : List (Option Value) → ℕ → Value → List (Option Value)
  with_field states place v = slice_set (slice_set states place None) place (Some v)

  record-goes : (at : ℕ) (o : Bool) (states : List (Option Value)) → GoToAll (fields_at definitions at) states → GoesTo (type.Record at) o (value.Record at states)
  record-goes at o states go =
      ap (λ v. value_goes v definitions (to (type.Record at) o)) (sym (value.rolls-Record at states)) ∙ goes-rolled definitions (Value-F.Record at states) (to (type.Record at) o)
      ∙ true-both (nat_eq at at) (go_to_fields definitions (fields_at definitions at) (map with_goes states)) (nat_eq-refl at) go

  -- ---- the record that is there, or a blank one

  none-go : (fs : List Field) → GoToAll fs (map (λ field. None) fs)
  none-go [] = refl
  none-go (f ∷ fs) = none-go fs

  -- a record of the type at a position is given
  record IsRecord (at : ℕ) (found : Outcome Record) : Type 0 where
    states : List (Option Value)
    is : found ≡ Yields (at, states)
    go : GoToAll (fields_at definitions at) states

  blank-there : (at : ℕ) → IsRecord at (blank definitions (Some (type.Record at)))
  blank-there at = record { states = map (λ field. None) (fields_at definitions at); is = refl; go = none-go (fields_at definitions at) }

  level-record : (x : Value-F Value) (at : ℕ) (o : Bool) → is_omit_in x ≡ false → level_goes definitions x (to (type.Record at) o) ≡ true → IsRecord at (or_unmet (record_in x))
  level-record (Value-F.Record bt states) at o present goes =
      let p = and_parts (nat_eq at bt) (go_to_fields definitions (fields_at definitions bt) (map with_goes states)) goes in
      let same : bt ≡ at = sym (eqb-true at bt p.0) in
      record { states = states; is = ap (λ (n : ℕ). Yields (n, states)) same; go = subst (λ n. GoToAll (fields_at definitions n) states) same p.1 }
  level-record (Value-F.Integer n) at o present goes = absurd (let e = goes in cc)
  level-record (Value-F.Boolean b) at o present goes = absurd (let e = goes in cc)
  level-record (Value-F.Enumerated bt n) at o present goes = absurd (let e = goes in cc)
  level-record (Value-F.Component c) at o present goes = absurd (let e = goes in cc)
  level-record (Value-F.Default n) at o present goes = absurd (let e = goes in cc)
  level-record Value-F.Null at o present goes = absurd (let e = goes in cc)
  level-record Value-F.Omit at o present goes = absurd (let e = present in cc)

  there-or-blank : (at : ℕ) (o : Bool) (v : Value) (omitted : Bool) → is_omit v ≡ omitted → GoesTo (type.Record at) o v
      → IsRecord at (if omitted then blank definitions (Some (type.Record at)) else or_unmet (record_of v))
  there-or-blank at o v true is goes = blank-there at
  there-or-blank at o v false is goes = level-record (out-Value v) at o is (sym (goes-out definitions v (to (type.Record at) o)) ∙ goes)

  record-there : (at : ℕ) (o : Bool) (held : Option Value) → HoldsFor (type.Record at) o held → IsRecord at (record_for definitions (Some (type.Record at)) held)
  record-there at o None holds = blank-there at
  record-there at o (Some v) holds = there-or-blank at o v (is_omit v) refl holds

  -- ---- the record without the field

  -- what a name holds is a record, or becomes one, and the field of a name is taken out of it
  record HasGap (at : ℕ) (held : Option Value) (name : List ℕ) (f : Field) : Type 0 where
    states : List (Option Value)
    there : StandsThere (λ g. bytes_eq g.name name) 0 (fields_at definitions at) states f
    is : gap_for definitions (Some (type.Record at)) held name ≡ Yields (gap_in definitions (at, states) there.place f there.held)

  at-first : (test : Field → Bool) (fs : List Field) (states : List (Option Value)) (f : Field) (there : StandsThere test 0 fs states f) → position test fs ≡ Some there.place
  at-first test fs states f there =
      let index : there.index ≡ there.place = omega (arith, there.index_is) in
      position_from-zero test fs ∙ there.is_first ∙ ap Some index

  gap-there : (at : ℕ) (o : Bool) (held : Option Value) (name : List ℕ) (f : Field) → HoldsFor (type.Record at) o held → find (λ g. bytes_eq g.name name) (fields_at definitions at) ≡ Some f → HasGap at held name f
  gap-there at o held name f holds found =
      let test : Field → Bool = λ g. bytes_eq g.name name in
      let whole = record-there at o held holds in
      let there = stands-there test 0 (fields_at definitions at) whole.states f whole.go found in
      record {
        states = whole.states;
        there = there;
        is = ap (outcome_and_then (gap_at_field definitions name)) whole.is
            ∙ ap (λ p. outcome_and_then (gap_at_place definitions (at, whole.states)) (or_unmet p)) (at-first test (fields_at definitions at) whole.states f there)
            ∙ ap (λ g. outcome_and_then (λ field. outcome_map (gap_in definitions (at, whole.states) there.place field) (or_unmet (slice_get whole.states there.place))) (or_unmet g)) there.field_there
            ∙ ap (λ h. outcome_map (gap_in definitions (at, whole.states) there.place f) (or_unmet h)) there.held_there;
      }

  -- ---- assignments

  -- what a name of a type holds then, in which what was assigned is read
  record IsAssigned (t : DataType) (o : Bool) (names : List (List ℕ)) (new v : Value) : Type 0 where
    goes : GoesTo t o v
    is_present : is_omit new ≡ false → is_omit v ≡ false
    is_read : is_omit new ≡ false → along definitions names (Yields v) ≡ Yields new

  -- what is assigned to fields of fields, and goes to the last of them, is assigned
  abbrev Assigns : List (List ℕ) → Type 0
  Assigns names = (t : DataType) (o : Bool) (held : Option Value) (new : Value) → (said.along definitions (typing.Known t) names).broken ≡ [] → HoldsFor t o held
      → value_goes new definitions (record { data_type = type_known (said.along definitions (typing.Known t) names).typing; optional = last_optional definitions (typing.Known t) o names }) ≡ true
      → GivesAlways (assigned definitions (Some t) held names new) (IsAssigned t o names new)

  held-for : (f : Field) (u : DataType) (held : Option Value) → resolved (module_names definitions) f.type_name ≡ Some u → goes_to_field definitions f (with_goes held) ≡ true → HoldsFor u f.optional held
  held-for f u None is goes = tt
  held-for f u (Some v) is goes = subst (λ of. value_goes v definitions (record { data_type = of; optional = f.optional }) ≡ true) is goes

  -- a record into which the field is put back
  put-back : (name : List ℕ) (names : List (List ℕ)) (at : ℕ) (o : Bool) (new : Value) (f : Field) (states : List (Option Value))
      (there : StandsThere (λ g. bytes_eq g.name name) 0 (fields_at definitions at) states f) (v : Value)
      → goes_to_field definitions f (with_goes (Some v)) ≡ true → (is_omit new ≡ false → is_omit v ≡ false) → (is_omit new ≡ false → along definitions names (Yields v) ≡ Yields new)
      → IsAssigned (type.Record at) o (name ∷ names) new (value.Record at (with_field states there.place v))
  put-back name names at o new f states there v goes present is_read =
      let test : Field → Bool = λ g. bytes_eq g.name name in
      let now : List (Option Value) = with_field states there.place v in
      let has : state_of_field definitions name (value.Record at now) ≡ Yields (Some v) =
      ap (state_in definitions name) (record-is at now) ∙ ap (λ p. or_unmet (option_and_then (slice_get now) p)) (at-first test (fields_at definitions at) states f there)
      ∙ ap or_unmet (set-there states there.place there.held None (Some v) there.held_there) in
      record {
        goes = record-goes at o now (there.go v goes);
        is_present = λ is. record-present at now;
        is_read = λ is. ap (λ state. along definitions names (outcome_and_then read state)) has ∙ ap (along definitions names) (read-present v (present is)) ∙ is_read is;
      }

  module _ (fields_known : (at : ℕ) → All (HasFieldType definitions) (fields_at definitions at)) where
    -- in a field of a known type
    in-field : (name : List ℕ) (names : List (List ℕ)) → Assigns names → (at : ℕ) (o : Bool) (held : Option Value) (new : Value) (f : Field)
        → find (λ g. bytes_eq g.name name) (fields_at definitions at) ≡ Some f → HoldsFor (type.Record at) o held → (of : Option DataType) → resolved (module_names definitions) f.type_name ≡ of
        → typed of ≢ typing.Unknown → (said.along definitions (typed of) names).broken ≡ []
        → value_goes new definitions (record { data_type = type_known (said.along definitions (typed of) names).typing; optional = last_optional definitions (typed of) f.optional names }) ≡ true
        → GivesAlways (assigned definitions (Some (type.Record at)) held (name ∷ names) new) (IsAssigned (type.Record at) o (name ∷ names) new)
    in-field name names assigns at o held new f is holds None resolves known nothing goes = absurd (known refl)
    in-field name names assigns at o held new f is holds (Some u) resolves known nothing goes =
        let gap = gap-there at o held name f holds is in
        always-found (IsAssigned (type.Record at) o (name ∷ names) new) _ (gap_for definitions (Some (type.Record at)) held name) (gap_in definitions (at, gap.states) gap.there.place f gap.there.held) gap.is
        (always-mapped (IsAssigned u f.optional names new) (IsAssigned (type.Record at) o (name ∷ names) new) (filled (gap_in definitions (at, gap.states) gap.there.place f gap.there.held))
        (assigned definitions (resolved (module_names definitions) f.type_name) gap.there.held names new)
        (subst (λ d. GivesAlways (assigned definitions d gap.there.held names new) (IsAssigned u f.optional names new)) (sym resolves)
        (assigns u f.optional gap.there.held new nothing (held-for f u gap.there.held resolves gap.there.goes) goes))
        (λ v inner. put-back name names at o new f gap.states gap.there v (subst (λ d. value_goes v definitions (record { data_type = d; optional = f.optional }) ≡ true) (sym resolves) inner.goes) inner.is_present inner.is_read))

    in-record : (name : List ℕ) (names : List (List ℕ)) → Assigns names → (at : ℕ) (o : Bool) (held : Option Value) (new : Value) (found : Option Field)
        → find (λ g. bytes_eq g.name name) (fields_at definitions at) ≡ found → HoldsFor (type.Record at) o held → ((check_field definitions found).broken ≡ [] → (check_field definitions found).typing ≢ typing.Unknown)
        → (check_field definitions found).broken ++ (said.along definitions (check_field definitions found).typing names).broken ≡ []
        → value_goes new definitions (record { data_type = type_known (said.along definitions (check_field definitions found).typing names).typing; optional = last_optional definitions (check_field definitions found).typing (is_optional found) names }) ≡ true
        → GivesAlways (assigned definitions (Some (type.Record at)) held (name ∷ names) new) (IsAssigned (type.Record at) o (name ∷ names) new)
    in-record name names assigns at o held new None is holds known nothing goes = absurd (let e = nothing in cc)
    in-record name names assigns at o held new (Some f) is holds known nothing goes =
        in-field name names assigns at o held new f is holds (resolved (module_names definitions) f.type_name) refl (known refl) nothing goes

    assigns : (names : List (List ℕ)) → Assigns names
    assigns [] t o held new nothing holds goes = record { goes = goes; is_present = λ is. is; is_read = λ is. refl }
    assigns (name ∷ names) (type.Record at) o held new nothing holds goes =
        let test : Field → Bool = λ g. bytes_eq g.name name in
        in-record name names (assigns names) at o held new (find test (fields_at definitions at)) refl holds (found-known definitions fields_known test (fields_at definitions at) (fields_known at)) nothing goes
    assigns (name ∷ names) type.Integer o held new nothing holds goes = absurd (let e = nothing in cc)
    assigns (name ∷ names) type.Boolean o held new nothing holds goes = absurd (let e = nothing in cc)
    assigns (name ∷ names) type.Default o held new nothing holds goes = absurd (let e = nothing in cc)
    assigns (name ∷ names) (type.Enumerated at) o held new nothing holds goes = absurd (let e = nothing in cc)
    assigns (name ∷ names) (type.Component at) o held new nothing holds goes = absurd (let e = nothing in cc)

    -- ---- the type of the last field

    -- a type is known
    abbrev IsType : Typing → Type 0
    IsType t = (of : DataType) × (t ≡ typing.Known of)

    typed-is : (of : Option DataType) → typed of ≢ typing.Unknown → IsType (typed of)
    typed-is (Some t) known = (t, refl)
    typed-is None known = absurd (known refl)

    field-is : (found : Option Field) → (check_field definitions found).broken ≡ [] → (check_field definitions found).typing ≢ typing.Unknown → IsType (check_field definitions found).typing
    field-is None nothing known = absurd (let e = nothing in cc)
    field-is (Some f) nothing known = typed-is (resolved (module_names definitions) f.type_name) known

    within-is : (t : DataType) (name : List ℕ) → (within definitions (typing.Known t) name).broken ≡ [] → IsType (within definitions (typing.Known t) name).typing
    within-is (type.Record at) name nothing =
        let test : Field → Bool = λ g. bytes_eq g.name name in
        field-is (find test (fields_at definitions at)) nothing (found-known definitions fields_known test (fields_at definitions at) (fields_known at) nothing)
    within-is type.Integer name nothing = absurd (let e = nothing in cc)
    within-is type.Boolean name nothing = absurd (let e = nothing in cc)
    within-is type.Default name nothing = absurd (let e = nothing in cc)
    within-is (type.Enumerated at) name nothing = absurd (let e = nothing in cc)
    within-is (type.Component at) name nothing = absurd (let e = nothing in cc)

    along-is : (names : List (List ℕ)) (t : Typing) → IsType t → (said.along definitions t names).broken ≡ [] → IsType (said.along definitions t names).typing
    along-is [] t is nothing = is
    along-is (name ∷ names) t is nothing =
        let found = within definitions t name in
        let first : found.broken ≡ [] = nothing-first found.broken (said.along definitions found.typing names).broken nothing in
        along-is names found.typing
        (subst (λ u. IsType (within definitions u name).typing) (sym is.1) (within-is is.0 name (subst (λ u. (within definitions u name).broken ≡ []) is.1 first)))
        (nothing-rest found.broken (said.along definitions found.typing names).broken nothing)

-- ---- variables

module _ (scope : Scope) (whole : IsWhole scope) (reference : Reference) (t : DataType) (variable : scope.names reference.name ≡ Some (meaning.Variable (Some t)))
    (nothing : (check_target scope reference).broken ≡ []) (held : Option Value) (holds : IfSome held (λ v. is_of scope.definitions t v ≡ true)) where
  -- what follows a variable of this type
  fine : (said.along scope.definitions (typing.Known t) reference.fields).broken ≡ []
  fine =
      let found = as_target scope.definitions (scope.names reference.name) in
      subst (λ m. (said.along scope.definitions (as_target scope.definitions m).typing reference.fields).broken ≡ []) variable
      (nothing-rest found.broken (said.along scope.definitions found.typing reference.fields).broken nothing)

  pub variable_assigned : (new : Value) → value_goes new scope.definitions (target_at scope reference) ≡ true
      → GivesAlways (assigned scope.definitions (Some t) held reference.fields new) (HoldsAssigned scope.definitions t reference.fields new)
  variable_assigned new goes =
      always-more (IsAssigned scope.definitions t false reference.fields new) (HoldsAssigned scope.definitions t reference.fields new) (assigned scope.definitions (Some t) held reference.fields new)
      (assigns scope.definitions whole.fields reference.fields t false held new fine holds
      (subst (λ m. value_goes new scope.definitions (record {
        data_type = type_known (said.along scope.definitions (as_target scope.definitions m).typing reference.fields).typing;
        optional = last_optional scope.definitions (as_target scope.definitions m).typing false reference.fields;
      }) ≡ true) variable goes))
      (λ v found. record { is_typed = found.goes; is_read = found.is_read })

  -- the type of the target
  target-is : (u : DataType) × ((target_at scope reference).data_type ≡ Some u)
  target-is =
      let last = along-is scope.definitions whole.fields reference.fields (typing.Known t) (t, refl) fine in
      (last.0, subst (λ m. type_known (said.along scope.definitions (as_target scope.definitions m).typing reference.fields).typing ≡ Some last.0) (sym variable) (ap type_known last.1))

  pub value_assigned : (reading : Reading) → FieldsDiffer scope.definitions → FitsIn scope reading → HasAll scope reading → (v : written.Value) → checked.value v scope (target_at scope reference) ≡ []
      → GivesOnly (outcome_and_then (assigned scope.definitions (Some t) held reference.fields) (value_wanted v reading (target_at scope reference).data_type)) (λ w. is_of scope.definitions t w ≡ true)
  value_assigned reading differ fit all v fine_value =
      let o : Bool = (target_at scope reference).optional in
      let judged : checked.value v scope (to target-is.0 o) ≡ [] = subst (λ d. checked.value v scope (record { data_type = d; optional = o }) ≡ []) target-is.1 fine_value in
      subst (λ d. GivesOnly (outcome_and_then (assigned scope.definitions (Some t) held reference.fields) (value_wanted v reading d)) (λ w. is_of scope.definitions t w ≡ true)) (sym target-is.1)
      (only-then (GoesTo scope.definitions target-is.0 o) (λ w. is_of scope.definitions t w ≡ true) (assigned scope.definitions (Some t) held reference.fields) (value_wanted v reading (Some target-is.0))
      (only-of (GoesTo scope.definitions target-is.0 o) (value_wanted v reading (Some target-is.0)) (values_met v scope reading whole differ fit all target-is.0 o judged) (values_typed v scope reading whole differ fit target-is.0 o judged))
      (λ new goes. only-always (λ w. is_of scope.definitions t w ≡ true) (assigned scope.definitions (Some t) held reference.fields new)
      (always-more (HoldsAssigned scope.definitions t reference.fields new) (λ w. is_of scope.definitions t w ≡ true) (assigned scope.definitions (Some t) held reference.fields new)
      (variable_assigned new (subst (λ d. value_goes new scope.definitions (record { data_type = d; optional = o }) ≡ true) (sym target-is.1) goes)) (λ w found. found.is_typed))))

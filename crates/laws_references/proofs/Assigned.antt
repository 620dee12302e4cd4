-- What a name holds after an assignment refers to nothing else than what it held, and what is assigned.
use Rattle.std.proofs.Common.{ℕ, Bool, true, false, List, [], ◌∷◌, bytes_eq, Option, Some, None, IfSome, if◌then◌else◌, slice_set}
use Rattle.std.specs.List.{All, position, slice_get}
use Rattle.std.proofs.lemmas.List.Elements.{All-map, All-set}
use Rattle.ttcn_syntax.specs.declared.tree.definition.Definition.{Definition}
use Rattle.ttcn_syntax.specs.declared.tree.definition.Field.{Field}
use Rattle.value_assignment.specs.Assignment.{Record, assigned, blank, filled, gap_at_field, gap_at_place, gap_for, gap_in, record_for}
use Rattle.check_scope.specs.Names.{fields_at}
use Rattle.check_scope.specs.declared.types.DataType.{DataType}
use Rattle.check_scope.specs.declared.types.DataType.TheVariants as type
use Rattle.laws_references.proofs.Expressions.{Gives}
use Rattle.laws_steps.proofs.Found.{get-each}
use Rattle.laws_references.proofs.Values.{LevelRefersTo, StateRefersTo, all-of, record-refers, refers-out}
use Rattle.laws_references.specs.References.{RefersTo}
use Rattle.laws_steps.proofs.Outcomes.{map-yields, then-yields, unmet-yields}
use Rattle.value_types.specs.Outcomes.{Fails, IfYields, Outcome, Yields, or_unmet, outcome_and_then, outcome_map}
use Rattle.value_types.specs.Values.{is_omit, record_in, record_of}
use Rattle.value_types.specs.declared.value.ComponentId.{ComponentId}
use Rattle.value_types.specs.declared.value.Value.{Value, out-Value}
use Rattle.value_types.specs.declared.value.Value.TheOpen.{Value-F}

-- with what is made of the value first, by which its type is known
map-known : {A B : Type 0} (f : A → B) (o : Outcome A) (P : A → Type 0) (Q : B → Type 0) → ((a : A) → P a → Q (f a)) → IfYields o P → IfYields (outcome_map f o) Q
map-known f o P Q more is = map-yields P Q f o more is

then-known : {A B : Type 0} (f : A → Outcome B) (o : Outcome A) (P : A → Type 0) (Q : B → Type 0) → ((a : A) → P a → IfYields (f a) Q) → IfYields o P → IfYields (outcome_and_then f o) Q
then-known f o P Q more is = then-yields P Q f o more is

any-gives : {A : Type 0} (o : Outcome A) → IfYields o (λ a. Unit {0})
any-gives (Yields a) = tt
any-gives (Fails why) = tt

module _ (P : ComponentId → Type 0) where
  abbrev RecordRefers : Record → Type 0
  RecordRefers whole = All (StateRefersTo P) whole.1

  -- a record whose field is taken out of it: its fields, and what the field held
  record GapRefers (fields : List (Option Value)) (held : Option Value) : Type 0 where
    states : All (StateRefersTo P) fields
    state : StateRefersTo P held

  blank-refers : (definitions : List Definition) (data_type : Option DataType) → IfYields (blank definitions data_type) RecordRefers
  blank-refers definitions (Some (type.Record at)) =
      All-map (StateRefersTo P) (λ (field : Field). None) (fields_at definitions at) (all-of (λ field. Unit {0}) (λ field. tt) (fields_at definitions at))
  blank-refers definitions _ = tt

  level-record : (x : Value-F Value) → LevelRefersTo P x → IfSome (record_in x) RecordRefers
  level-record (Value-F.Record at fields) is = is
  level-record (Value-F.Integer n) is = tt
  level-record (Value-F.Boolean b) is = tt
  level-record (Value-F.Enumerated at n) is = tt
  level-record (Value-F.Component c) is = tt
  level-record (Value-F.Default n) is = tt
  level-record Value-F.Null is = tt
  level-record Value-F.Omit is = tt

  record-if : (definitions : List Definition) (data_type : Option DataType) (v : Value) (b : Bool) → RefersTo P v → IfYields (if b then blank definitions data_type else or_unmet (record_of v)) RecordRefers
  record-if definitions data_type v true is = blank-refers definitions data_type
  record-if definitions data_type v false is = unmet-yields RecordRefers (record_of v) (level-record (out-Value v) (refers-out P v is))

  record-refers-for : (definitions : List Definition) (data_type : Option DataType) (held : Option Value) → StateRefersTo P held → IfYields (record_for definitions data_type held) RecordRefers
  record-refers-for definitions data_type None is = blank-refers definitions data_type
  record-refers-for definitions data_type (Some v) is = record-if definitions data_type v (is_omit v) is

  gap-at-place : (definitions : List Definition) (whole : Record) (place : ℕ) → RecordRefers whole → IfYields (gap_at_place definitions whole place) (λ gap. GapRefers gap.fields gap.held)
  gap-at-place definitions whole place is =
      then-known (λ field. outcome_map (gap_in definitions whole place field) (or_unmet (slice_get whole.1 place))) (or_unmet (slice_get (fields_at definitions whole.0) place))
      (λ field. Unit {0}) (λ gap. GapRefers gap.fields gap.held)
      (λ field any. map-known (gap_in definitions whole place field) (or_unmet (slice_get whole.1 place)) (StateRefersTo P) (λ gap. GapRefers gap.fields gap.held)
      (λ held of. record { states = All-set (StateRefersTo P) whole.1 place None tt is; state = of })
      (unmet-yields (StateRefersTo P) (slice_get whole.1 place) (get-each (StateRefersTo P) whole.1 place is)))
      (any-gives (or_unmet (slice_get (fields_at definitions whole.0) place)))

  gap-at-field : (definitions : List Definition) (name : List ℕ) (whole : Record) → RecordRefers whole → IfYields (gap_at_field definitions name whole) (λ gap. GapRefers gap.fields gap.held)
  gap-at-field definitions name whole is =
      then-known (gap_at_place definitions whole) (or_unmet (position (λ field. bytes_eq field.name name) (fields_at definitions whole.0)))
      (λ place. Unit {0}) (λ gap. GapRefers gap.fields gap.held) (λ place any. gap-at-place definitions whole place is)
      (any-gives (or_unmet (position (λ field. bytes_eq field.name name) (fields_at definitions whole.0))))

  gap-refers : (definitions : List Definition) (data_type : Option DataType) (held : Option Value) (name : List ℕ) → StateRefersTo P held → IfYields (gap_for definitions data_type held name) (λ gap. GapRefers gap.fields gap.held)
  gap-refers definitions data_type held name is =
      then-known (gap_at_field definitions name) (record_for definitions data_type held) RecordRefers (λ gap. GapRefers gap.fields gap.held)
      (gap-at-field definitions name) (record-refers-for definitions data_type held is)

  pub assigned-gives : (definitions : List Definition) (data_type : Option DataType) (held : Option Value) (names : List (List ℕ)) (new : Value) → StateRefersTo P held → RefersTo P new
      → Gives P (assigned definitions data_type held names new)
  assigned-gives definitions data_type held [] new is of = of
  assigned-gives definitions data_type held (name ∷ names) new is of =
      then-known (λ whole. outcome_map (filled whole) (assigned definitions whole.data_type whole.held names new)) (gap_for definitions data_type held name)
      (λ whole. GapRefers whole.fields whole.held) (RefersTo P)
      (λ whole known. map-known (filled whole) (assigned definitions whole.data_type whole.held names new) (RefersTo P) (RefersTo P)
      (λ v also. record-refers P whole.at (slice_set whole.fields whole.place (Some v)) (All-set (StateRefersTo P) whole.fields whole.place (Some v) also known.states))
      (assigned-gives definitions whole.data_type whole.held names new known.state of))
      (gap-refers definitions data_type held name is)

-- What comes in by a script that fits is a message that refers to no component, since no port lets components pass.
use Rattle.std.proofs.Common.{◌≡◌, ℕ, Bool, true, false, ◌&&◌, not, List, [], ◌∷◌, ◌++◌, map, bytes_eq, Option, Some, None, refl, sym, subst, ◌∙◌}
use Rattle.std.specs.List.{All, list_any}
use Rattle.std.proofs.lemmas.List.Elements.{All-cons, All-contains, All-head, All-nil, All-tail}
use Rattle.ttcn_syntax.specs.declared.tree.definition.Definition.{Definition}
use Rattle.ttcn_syntax.specs.declared.tree.definition.DefinitionKind.{DefinitionKind}
use Rattle.ttcn_syntax.specs.declared.tree.definition.DefinitionKind.TheVariants as kind
use Rattle.ttcn_syntax.specs.declared.tree.definition.Field.{Field}
use Rattle.check_rules.specs.Definitions.{check_fields, check_part}
use Rattle.check_rules.specs.Rules.{AreWellTyped}
use Rattle.check_scope.specs.Names.{Names, fields_at, fields_of, kind_at, module_names, resolved}
use Rattle.check_scope.specs.Typings.{unless}
use Rattle.check_scope.specs.declared.rule.Rule.{Rule}
use Rattle.check_scope.specs.declared.rule.Rule.TheVariants as rule
use Rattle.check_scope.specs.declared.types.DataType.{DataType}
use Rattle.check_scope.specs.declared.types.DataType.TheVariants as type
use Rattle.laws_checker.proofs.Nothing.{nothing-first, nothing-rest}
use Rattle.laws_checker.proofs.Whole.{definition_is_fine}
use Rattle.laws_evaluation.proofs.TypedLiterals.{same-type}
use Rattle.laws_evaluation.proofs.TypedValues.{goes-rolled, level_goes, with_goes}
use Rattle.laws_evaluation.specs.Types.{go_to_fields, goes_to_field, value_goes, wants}
use Rattle.laws_references.proofs.Values.{LevelRefersTo, StateRefersTo, refers-rolled}
use Rattle.laws_references.specs.References.{RefersTo, RefersToNone, references}
use Rattle.laws_references.specs.There.{ScriptRefersToNone}
use Rattle.laws_types.proofs.Sends.{IsPlain, IsPlainType, port-plain, type-plain}
use Rattle.laws_types.specs.Typed.{FitsMessage}
use Rattle.semantics.proofs.Pairs.{All-more}
use Rattle.semantics.specs.Snapshots.{Test}
use Rattle.semantics.specs.Statements.{types_at}
use Rattle.step_script.specs.Fitting.{ComesIn, FitsPort, FitsScript}
use Rattle.value_types.specs.declared.value.ComponentId.{ComponentId}
use Rattle.value_types.specs.declared.value.Value.{Value, roll-Value}
use Rattle.value_types.specs.declared.value.Value.TheFolds.{ind-Value, map-Value}
use Rattle.value_types.specs.declared.value.Value.TheOpen.{Value-F}
use Rattle.value_types.specs.declared.value.Value.TheShapes.{former-Value-Record-1-at-1}

-- ---- the types of fields

-- the type of a field is known, and is no component type
abbrev IsPlainField : Names → Field → Type 0
IsPlainField names field = IsPlainType (resolved names field.type_name)

fields-plain : (names : Names) (before : List (List ℕ)) (fields : List Field) → check_fields names before fields ≡ [] → All (IsPlainField names) fields
fields-plain names before [] nothing = All-nil (IsPlainField names)
fields-plain names before (field ∷ fields) nothing =
    let name : List Rule = unless (not (list_any (bytes_eq field.name) before)) rule.DuplicateName in
    let here : List Rule = check_part names field.type_name in
    let others : List Rule = check_fields names (before ++ field.name ∷ []) fields in
    All-cons (IsPlainField names) field fields (type-plain names field.type_name (nothing-rest name here (nothing-first (name ++ here) others nothing)))
    (fields-plain names (before ++ field.name ∷ []) fields (nothing-rest (name ++ here) others nothing))

record-plain : (definitions : List Definition) → AreWellTyped definitions → (at : ℕ) (k : Option DefinitionKind) → kind_at definitions at ≡ k → All (IsPlainField (module_names definitions)) (fields_of k)
record-plain definitions well at (Some (kind.Record r)) is = fields-plain (module_names definitions) [] r.fields (definition_is_fine definitions well at (kind.Record r) is)
record-plain definitions well at (Some (kind.Enumerated e)) is = All-nil (IsPlainField (module_names definitions))
record-plain definitions well at (Some (kind.Port p)) is = All-nil (IsPlainField (module_names definitions))
record-plain definitions well at (Some (kind.Component c)) is = All-nil (IsPlainField (module_names definitions))
record-plain definitions well at (Some (kind.Constants cs)) is = All-nil (IsPlainField (module_names definitions))
record-plain definitions well at (Some (kind.Template t)) is = All-nil (IsPlainField (module_names definitions))
record-plain definitions well at (Some (kind.Function f)) is = All-nil (IsPlainField (module_names definitions))
record-plain definitions well at (Some (kind.Altstep a)) is = All-nil (IsPlainField (module_names definitions))
record-plain definitions well at (Some (kind.Testcase t)) is = All-nil (IsPlainField (module_names definitions))
record-plain definitions well at None is = All-nil (IsPlainField (module_names definitions))

-- ---- values of such types

-- no component
abbrev NoneOf : ComponentId → Type 0
NoneOf id = ⊥

second-true : (a b : Bool) → (a && b) ≡ true → b ≡ true
second-true true b is = is
second-true false b is = absurd (let no = is in cc)

first-true : (a b : Bool) → (a && b) ≡ true → a ≡ true
first-true true b is = refl
first-true false b is = absurd (let no = is in cc)

module _ (ds : List Definition) (well : AreWellTyped ds) where
  -- where it goes to such a type, it refers to no component
  abbrev RefersNowhere : Value → Type 0
  RefersNowhere v = (of : Option DataType) (optional : Bool) → IsPlainType of → value_goes v ds (record { data_type = of; optional = optional }) ≡ true → RefersTo NoneOf v

  abbrev Held : Type 0
  Held = (v : Value) × RefersNowhere v

  abbrev bare : Held → Value
  bare held = held.0

  abbrev bare-field : Option Held → Option Value
  bare-field = former-Value-Record-1-at-1.map Held Value bare

  field-none : (field : Field) → IsPlainField (module_names ds) field → (state : Option Held) → goes_to_field ds field (with_goes (bare-field state)) ≡ true → StateRefersTo NoneOf (bare-field state)
  field-none field plain None goes = tt
  field-none field plain (Some held) goes = held.1 (resolved (module_names ds) field.type_name) field.optional plain goes

  fields-none : (fields : List Field) → All (IsPlainField (module_names ds)) fields → (states : List (Option Held)) → go_to_fields ds fields (map with_goes (map bare-field states)) ≡ true
      → All (StateRefersTo NoneOf) (map bare-field states)
  fields-none [] plain [] goes = All-nil (StateRefersTo NoneOf)
  fields-none [] plain (state ∷ states) goes = absurd (let no = goes in cc)
  fields-none (field ∷ fields) plain [] goes = All-nil (StateRefersTo NoneOf)
  fields-none (field ∷ fields) plain (state ∷ states) goes =
      All-cons (StateRefersTo NoneOf) (bare-field state) (map bare-field states)
      (field-none field (All-head (IsPlainField (module_names ds)) field fields plain) state
      (first-true (goes_to_field ds field (with_goes (bare-field state))) (go_to_fields ds fields (map with_goes (map bare-field states))) goes))
      (fields-none fields (All-tail (IsPlainField (module_names ds)) field fields plain) states
      (second-true (goes_to_field ds field (with_goes (bare-field state))) (go_to_fields ds fields (map with_goes (map bare-field states))) goes))

  component-none : (c : ComponentId) (of : Option DataType) → IsPlainType of → wants (type.Component c.component_type) of ≡ true → ⊥
  component-none c None plain goes = plain
  component-none c (Some t) plain goes =
      let no : true ≡ false = subst IsPlain (same-type t (type.Component c.component_type) goes) plain in cc

  level-none : (x : Value-F Held) (of : Option DataType) (optional : Bool) → IsPlainType of → level_goes ds (map-Value Held Value bare x) (record { data_type = of; optional = optional }) ≡ true
      → LevelRefersTo NoneOf (map-Value Held Value bare x)
  level-none (Value-F.Record at states) of optional plain goes =
      fields-none (fields_at ds at) (record-plain ds well at (kind_at ds at) refl) states
      (second-true (wants (type.Record at) of) (go_to_fields ds (fields_at ds at) (map with_goes (map bare-field states))) goes)
  level-none (Value-F.Component c) of optional plain goes = component-none c of plain goes
  level-none (Value-F.Integer n) of optional plain goes = tt
  level-none (Value-F.Boolean b) of optional plain goes = tt
  level-none (Value-F.Enumerated at n) of optional plain goes = tt
  level-none (Value-F.Default n) of optional plain goes = tt
  level-none Value-F.Null of optional plain goes = tt
  level-none Value-F.Omit of optional plain goes = tt

  rolled-none : (x : Value-F Held) → RefersNowhere (roll-Value (map-Value Held Value bare x))
  rolled-none x of optional plain goes =
      refers-rolled NoneOf (map-Value Held Value bare x)
      (level-none x of optional plain (sym (goes-rolled ds (map-Value Held Value bare x) (record { data_type = of; optional = optional })) ∙ goes))

  value-none : (v : Value) → RefersNowhere v
  value-none = ind-Value RefersNowhere (λ x y is-bare. subst (λ (w : Value-F Value). RefersNowhere (roll-Value w)) is-bare (rolled-none y))

  -- ---- scripts

  none-listed : (found : List ComponentId) → All NoneOf found → found ≡ []
  none-listed [] all = refl
  none-listed (id ∷ found) all = absurd (All-head NoneOf id found all)

  types-plain-at : (port : Option ℕ) → All IsPlainType (types_at ds true port)
  types-plain-at None = All-nil IsPlainType
  types-plain-at (Some at) = port-plain ds well at true (kind_at ds at) refl

  comes-none : (port : Option ℕ) (v : Value) → ComesIn ds port v → RefersToNone v
  comes-none port v comes =
      none-listed (references v)
      (value-none v (Some comes.data_type) false (All-contains IsPlainType (types_at ds true port) (Some comes.data_type) (types-plain-at port) comes.is_listed) comes.goes)

-- no message of a script that fits refers to a component
pub script-none : (test : Test) → AreWellTyped test.definitions → FitsScript test → ScriptRefersToNone test
script-none test well fits =
    All-more (FitsPort test) (λ entry. All RefersToNone entry.1)
    (λ entry port. All-more (ComesIn test.definitions port.port) RefersToNone (comes-none test.definitions well port.port) entry.1 port.messages) test.script fits

-- it comes in without a sender, and fits
abbrev pub FitsIn : List Definition → Value → Type 0
FitsIn definitions v = FitsMessage definitions (record { value = v; sender = None })

pub script-messages : (test : Test) → FitsScript test → All (λ entry. All (FitsIn test.definitions) entry.1) test.script
script-messages test fits =
    All-more (FitsPort test) (λ entry. All (FitsIn test.definitions) entry.1)
    (λ entry port. All-more (ComesIn test.definitions port.port) (FitsIn test.definitions)
    (λ v comes. record { data_type = comes.data_type; is_typed = comes.is_typed; goes = comes.goes; is_whole = comes.is_whole }) entry.1 port.messages) test.script fits

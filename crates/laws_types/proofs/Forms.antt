-- Conditions, loops, returns and operations on components, ports, timers and defaults, where they break no rule.
use Rattle.std.proofs.Common.{◌≡◌, ◌≢◌, ℕ, Bool, true, false, not, List, [], ◌∷◌, ◌++◌, nat_eq, Option, Some, None, IfSome, is_some, inr, refl, sym, ap, subst, ◌∙◌, if◌then◌else◌}
use Rattle.std.specs.List.{All, filter}
use Rattle.std.specs.Option.{option_and_then}
use Rattle.std.proofs.lemmas.List.Elements.{All-filter, All-nil}
use Rattle.ttcn_syntax.specs.declared.tree.definition.Definition.{Definition}
use Rattle.ttcn_syntax.specs.declared.tree.definition.DefinitionKind.{DefinitionKind}
use Rattle.ttcn_syntax.specs.declared.tree.definition.DefinitionKind.TheVariants as kind
use Rattle.ttcn_syntax.specs.declared.tree.definition.Field.{Field}
use Rattle.ttcn_syntax.specs.declared.tree.expression.ComponentRef.{ComponentRef}
use Rattle.ttcn_syntax.specs.declared.tree.expression.ComponentRef.TheVariants as component
use Rattle.ttcn_syntax.specs.declared.tree.expression.Expr.{Expr}
use Rattle.ttcn_syntax.specs.declared.tree.expression.Reference.{Reference}
use Rattle.ttcn_syntax.specs.declared.tree.statement.MapOperation.{MapOperation}
use Rattle.ttcn_syntax.specs.declared.tree.statement.MapOperation.TheVariants as operation
use Rattle.ttcn_syntax.specs.declared.tree.statement.Mapping.{Mapping}
use Rattle.ttcn_syntax.specs.declared.tree.statement.PortRef.{PortRef}
use Rattle.ttcn_syntax.specs.declared.tree.value.Call.{Call}
use Rattle.ttcn_syntax.specs.declared.tree.value.TypeName.{TypeName}
use Rattle.ttcn_syntax.specs.declared.tree.value.Value as written
use Rattle.check_rules.specs.Calls.{component_named, result_type_of, runs_on_of}
use Rattle.check_rules.specs.Expressions.{along, check_component, check_field, check_meaning, check_reference, check_wanted_component, expression, is_timer, within as within_typing}
use Rattle.check_rules.specs.Expressions as said
use Rattle.check_scope.specs.Names.{Scope, constants_type, field_named, fields_at, kind_at, module_names, resolved}
use Rattle.check_scope.specs.Typings.{refers_to_component, target_of, typed, unless}
use Rattle.check_scope.specs.declared.names.Meaning.{Meaning}
use Rattle.check_scope.specs.declared.names.Meaning.TheVariants as meaning
use Rattle.check_scope.specs.declared.rule.Rule.{Rule}
use Rattle.check_scope.specs.declared.rule.Rule.TheVariants as rule
use Rattle.check_scope.specs.declared.types.DataType.{DataType}
use Rattle.check_scope.specs.declared.types.DataType.TheVariants as type
use Rattle.check_scope.specs.declared.types.Typing.{Typing}
use Rattle.check_scope.specs.declared.types.Typing.TheVariants as typing
use Rattle.check_rules.specs.Messages.{check_timer, is_timer_name}
use Rattle.check_rules.specs.Statements.{Place, check_boolean, check_condition, check_deactivate, check_ends, check_mapping, check_return, check_start, check_stop, is_function, runs_there}
use Rattle.laws_checker.proofs.Descent.{name_resolves}
use Rattle.laws_checker.proofs.Fitting.{same-number}
use Rattle.laws_checker.proofs.Nothing.{kept, nothing-first, nothing-rest}
use Rattle.laws_checker.proofs.Typed.{component-typed}
use Rattle.laws_evaluation.proofs.Only.{only-of, only-then}
use Rattle.laws_evaluation.proofs.TypedRecords.{values_met, values_typed}
use Rattle.laws_evaluation.proofs.TypedValues.{goes-out, goes-rolled, level_goes}
use Rattle.laws_evaluation.proofs.Using.{component_found, conditions_met, default_given, wanted_found}
use Rattle.laws_evaluation.specs.Types.{IsOfTyping, is_of, names_timer, value_goes}
use Rattle.laws_evaluation.specs.Uses.{GivesOnly}
use Rattle.laws_sites.specs.Standing.{MayReturn}
use Rattle.laws_statements.proofs.Resolving.{started}
use Rattle.laws_statements.proofs.Returning.{results_known, return_fits}
use Rattle.laws_statements.proofs.Within.{condition_stays, deactivate_stays, ends_stays, mapping_stays, return_stays, start_stays, stop_stays}
use Rattle.laws_statements.specs.Parts.{IsCondition}
use Rattle.laws_statements.specs.Resolved as resolved_as
use Rattle.laws_statements.specs.Results.{IsReturn, ReturnsValue}
use Rattle.semantics.specs.Configurations.{ActiveDefault, Data}
use Rattle.semantics.specs.Items.{Item}
use Rattle.semantics.specs.Sites.{Site, component_name, scope_at}
use Rattle.semantics.specs.Statements.{Act, Continues, Errs, Maps, Requests, Stand, Starts, Stops, act_connect, act_deactivate, act_map, act_return, act_start, act_stop_of, act_test, acting, ask_connection, ask_operation, component_meant_at, done, frame_of_call, go_either, leave, may_connect, may_map, stop_meant, with_defaults, without_default}
use Rattle.semantics.specs.Storing.{set_timer}
use Rattle.check_rules.specs.Rules.{AreWellTyped}
use Rattle.value_types.specs.Evaluation.{condition_of}
use Rattle.value_types.specs.Frames.{entry}
use Rattle.value_types.specs.Literals.{value_wanted}
use Rattle.value_types.specs.Outcomes.{DynamicError, Fails, IsMet, Outcome, Unmet, Yields, outcome_and_then}
use Rattle.value_types.specs.Readings.{referred, timer_at, timer_of}
use Rattle.value_types.specs.declared.frame.TimerState.{TimerState}
use Rattle.value_types.specs.declared.frame.TimerState.TheVariants as timer
use Rattle.value_types.specs.declared.path.Path.{Path}
use Rattle.value_types.specs.declared.value.ComponentId.{ComponentId}
use Rattle.value_types.specs.declared.value.Value.{Value, out-Value}
use Rattle.value_types.specs.declared.value.Value.TheOpen.{Value-F}
use Rattle.value_types.specs.declared.value.Value.TheVariants as value
use Rattle.laws_types.proofs.Data.{timer-set}
use Rattle.laws_types.proofs.Leaving.{leave-asks}
use Rattle.laws_types.proofs.Stands.{Asks, NestHere, StandsAt, acting-fits, continuing-fits, differ, fit, fits-at, frame-called, goes-on, has, kind-of, known, only-from, reading, remains, view, whole, wide, within}
use Rattle.laws_types.specs.internal.Asked.{IsMeant}
use Rattle.laws_types.specs.Fitting.{or_timer}
use Rattle.laws_types.specs.Typed.{FitsData, FitsDefault, FitsFrame, Nest, result_of}

-- ---- what is known of a component reference that is no `mtc`

along-told : (definitions : List Definition) (t : Typing) → t ≢ typing.AnyComponent → (name : List ℕ) → (within_typing definitions t name).typing ≢ typing.AnyComponent
along-told definitions (typing.Known (type.Record at)) told name is = field-told (field_named name (fields_at definitions at)) is
  where
    known-told : (of : Option DataType) → typed of ≡ typing.AnyComponent → ⊥
    known-told None is = let e = is in cc
    known-told (Some t) is = let e = is in cc

    field-told : (field : Option Field) → (check_field definitions field).typing ≡ typing.AnyComponent → ⊥
    field-told None is = let e = is in cc
    field-told (Some field) is = known-told (resolved (module_names definitions) field.type_name) is
along-told definitions typing.Unknown told name is = let e = is in cc
along-told definitions (typing.Known type.Integer) told name is = let e = is in cc
along-told definitions (typing.Known type.Boolean) told name is = let e = is in cc
along-told definitions (typing.Known type.Default) told name is = let e = is in cc
along-told definitions (typing.Known (type.Enumerated at)) told name is = let e = is in cc
along-told definitions (typing.Known (type.Component at)) told name is = let e = is in cc
along-told definitions typing.Null told name is = let e = is in cc
along-told definitions typing.AnyComponent told name is = told refl
along-told definitions typing.NoValue told name is = let e = is in cc

fields-told : (definitions : List Definition) (fields : List (List ℕ)) (t : Typing) → t ≢ typing.AnyComponent → (along definitions t fields).typing ≢ typing.AnyComponent
fields-told definitions [] t told = told
fields-told definitions (name ∷ fields) t told = fields-told definitions fields (within_typing definitions t name).typing (along-told definitions t told name)

meaning-told : (definitions : List Definition) (m : Option Meaning) → (check_meaning definitions m).typing ≢ typing.AnyComponent
meaning-told definitions (Some (meaning.Variable None)) is = let e = is in cc
meaning-told definitions (Some (meaning.Variable (Some t))) is = let e = is in cc
meaning-told definitions (Some (meaning.Constant None)) is = let e = is in cc
meaning-told definitions (Some (meaning.Constant (Some t))) is = let e = is in cc
meaning-told definitions (Some (meaning.ModuleConstant at item)) is = typed-told (constants_type (module_names definitions) (kind_at definitions at)) is
  where
    typed-told : (of : Option DataType) → typed of ≡ typing.AnyComponent → ⊥
    typed-told None is = let e = is in cc
    typed-told (Some t) is = let e = is in cc
meaning-told definitions (Some (meaning.Enumerator at)) is = let e = is in cc
meaning-told definitions (Some (meaning.Port of)) is = let e = is in cc
meaning-told definitions (Some meaning.Timer) is = let e = is in cc
meaning-told definitions _ is = let e = is in cc

told-type : (t : Typing) → t ≢ typing.Unknown → t ≢ typing.AnyComponent → refers_to_component t ≡ true → (at : ℕ) × (t ≡ typing.Known (type.Component at))
told-type (typing.Known (type.Component at)) known told refers = (at, refl)
told-type (typing.Known (type.Record at)) known told refers = absurd (let e = refers in cc)
told-type (typing.Known (type.Enumerated at)) known told refers = absurd (let e = refers in cc)
told-type (typing.Known type.Integer) known told refers = absurd (let e = refers in cc)
told-type (typing.Known type.Boolean) known told refers = absurd (let e = refers in cc)
told-type (typing.Known type.Default) known told refers = absurd (let e = refers in cc)
told-type typing.Null known told refers = absurd (let e = refers in cc)
told-type typing.AnyComponent known told refers = absurd (told refl)
told-type typing.NoValue known told refers = absurd (let e = refers in cc)
told-type typing.Unknown known told refers = absurd (known refl)

self-told : (own : Option ℕ) → (said.check_self own false).broken ≡ [] → (said.check_self own false).typing ≢ typing.AnyComponent
self-told None nothing is = let e = nothing in cc
self-told (Some at) nothing is = let e = is in cc

reference-told : (scope : Scope) (c : ComponentRef) → (check_component scope c false).broken ≡ [] → (check_component scope c false).typing ≢ typing.AnyComponent
reference-told scope component.Itself nothing = self-told scope.itself nothing
reference-told scope component.Mtc nothing = λ is. let e = nothing in cc
reference-told scope (component.Named r) nothing = fields-told scope.definitions r.fields (check_meaning scope.definitions (scope.names r.name)).typing (meaning-told scope.definitions (scope.names r.name))

-- the reference is of this component type
reference-type : (definitions : List Definition) (at : ℕ) (c : ComponentId) → is_of definitions (type.Component at) (value.Component c) ≡ true → c.component_type ≡ at
reference-type definitions at c goes =
    let target = target_of (Some (type.Component at)) in
    let told = ap (λ v. value_goes v definitions target) (sym (value.rolls-Component c)) ∙ goes-rolled definitions (Value-F.Component c) target in
    sym (same-number at c.component_type (sym told ∙ goes))

-- ---- what follows of an item that breaks no rule

pub both-none : (broken : List Rule) (t : Typing) → broken ≡ [] → t ≡ typing.Known type.Boolean → broken ++ check_boolean t ≡ []
both-none broken t none boolean = subst (λ bs. bs ++ check_boolean t ≡ []) (sym none) (subst (λ t. check_boolean t ≡ []) (sym boolean) refl)

pub is-timer : (m : Option Meaning) → is_timer_name m ≡ true → m ≡ Some meaning.Timer
is-timer (Some meaning.Timer) is = refl
is-timer _ is = absurd (let e = is in cc)

same-test : (m : Option Meaning) → is_timer [] m ≡ names_timer m
same-test (Some meaning.Timer) = refl
same-test _ = refl

timer-of : (m : Option Meaning) → names_timer m ≡ true → m ≡ Some meaning.Timer
timer-of (Some meaning.Timer) is = refl
timer-of _ is = absurd (let e = is in cc)

-- a default, or `null`
level-default : (definitions : List Definition) (P : Data → Type 0) (own : Data) (x : Value-F Value) → level_goes definitions x (target_of (Some type.Default)) ≡ true → P own
    → ((n : ℕ) → P (with_defaults (filter (λ d. not (nat_eq d.number n)) own.defaults) own)) → GivesOnly (without_default own x) P
level-default definitions P own (Value-F.Default n) goes is less = less n
level-default definitions P own Value-F.Null goes is less = is
level-default definitions P own (Value-F.Integer n) goes is less = absurd (let e = goes in cc)
level-default definitions P own (Value-F.Boolean b) goes is less = absurd (let e = goes in cc)
level-default definitions P own (Value-F.Enumerated at n) goes is less = absurd (let e = goes in cc)
level-default definitions P own (Value-F.Record at fields) goes is less = absurd (let e = goes in cc)
level-default definitions P own (Value-F.Component c) goes is less = absurd (let e = goes in cc)
level-default definitions P own Value-F.Omit goes is less = absurd (let e = goes in cc)

runs-there-on : (definitions : List Definition) (at : ℕ) (k : Option DefinitionKind) → is_function k ≡ true → runs_there (typing.Known (type.Component at)) (component_named definitions (runs_on_of k)) ≡ true
    → IfSome (component_named definitions (component_name k)) (λ n. at ≡ n)
runs-there-on definitions at (Some (kind.Function f)) function runs = on (component_named definitions f.runs_on) runs
  where
    on : (of : Option ℕ) → runs_there (typing.Known (type.Component at)) of ≡ true → IfSome of (λ n. at ≡ n)
    on None runs = tt
    on (Some n) runs = same-number at n runs
runs-there-on definitions at _ function runs = absurd (let e = function in cc)

module _ (stand : Stand) (well : AreWellTyped stand.test.definitions) (site : Site) (is : StandsAt stand site) (nest : NestHere stand well site is site.declared stand.rest) where
  abbrev ds : List Definition
  ds = stand.test.definitions

  abbrev Asking : Act → Type 0
  Asking asked = Asks stand well site is asked

  abbrev Nesting : List Item → Type 0
  Nesting xs = NestHere stand well site is site.declared xs

  abbrev here : Scope
  here = scope_at ds site

  abbrev scope : Scope
  scope = wide stand well site is

  abbrev ct : ℕ
  ct = kind-of stand well site is

  -- a stop is asked for with data of a component that runs
  pub stop-done : {path : Path} {own : Data} → FitsData ds ct own → Asking (Requests (Stops path) own)
  stop-done fits = (record { members = fits.members; calls = fits.calls; defaults = fits.defaults }, inr fits.frames)

  done-fits : FitsData ds ct (done stand)
  done-fits = goes-on stand well site is stand.rest nest

  -- ---- conditions

  either : (held failed : List Item) → Nesting held → Nesting failed → (b : Bool) → Asking (go_either stand held failed b)
  either held failed one other true = goes-on stand well site is held one
  either held failed one other false = goes-on stand well site is failed other

  met-only : (o : Outcome Bool) → IsMet o → GivesOnly o (λ b. Unit {0})
  met-only (Yields b) met = tt
  met-only (Fails DynamicError) met = tt
  met-only (Fails Unmet) met = met

  pub test-asks : (e : Expr) (held failed : List Item) → IsCondition here e → Nesting held → Nesting failed → Asking (act_test stand site e held failed)
  test-asks e held failed condition one other =
      let nothing : check_condition here e ≡ [] = both-none (expression e here false).broken (expression e here false).typing condition.fine condition.boolean in
      acting-fits stand.test ct stand.snapshot.itself.path (IsMeant stand.test stand.snapshot stand.own stand.frame) (λ (b : Bool). Unit {0}) (go_either stand held failed) (condition_of e (reading stand well site is))
      (met-only (condition_of e (reading stand well site is)) (conditions_met e scope (reading stand well site is) (whole stand well site is) (fit stand well site is) (has stand well site is)
      (condition_stays e here scope (within stand well site is) nothing)))
      (λ b any. either held failed one other b)

  -- ---- returns

  value-returned : (of : TypeName) (given : Option written.Value) → result_type_of (kind_at ds site.behaviour) ≡ Some of → ReturnsValue scope (resolved (module_names ds) of) given → Asking (act_return stand site given)
  value-returned of given result fine =
      let read = reading stand well site is in
      let t : DataType = fine.data_type in
      let of-result : result_of ds site.behaviour ≡ Some t = ap (option_and_then (resolved (module_names ds))) result ∙ fine.known in
      subst (λ g. Asking (act_return stand site g)) (sym fine.stands)
      (subst (λ o. Asking (acting (λ found. leave stand stand.below (Some found)) (value_wanted fine.returned read o))) (sym of-result)
      (acting-fits stand.test ct stand.snapshot.itself.path (IsMeant stand.test stand.snapshot stand.own stand.frame) (λ w. is_of ds t w ≡ true) (λ found. leave stand stand.below (Some found)) (value_wanted fine.returned read (Some t))
      (only-of (λ w. is_of ds t w ≡ true) (value_wanted fine.returned read (Some t))
      (values_met fine.returned scope read (whole stand well site is) (differ stand well site is) (fit stand well site is) (has stand well site is) t false fine.goes)
      (values_typed fine.returned scope read (whole stand well site is) (differ stand well site is) (fit stand well site is) t false fine.goes))
      (λ found of. leave-asks stand well ct is.here.members is.here.defaults (result_of ds site.behaviour) stand.below (Some found) (t, of-result, of) is.below)))

  returned : (of : Option TypeName) (given : Option written.Value) → result_type_of (kind_at ds site.behaviour) ≡ of → IsReturn scope of given → Asking (act_return stand site given)
  returned None None result fine =
      leave-asks stand well ct is.here.members is.here.defaults (result_of ds site.behaviour) stand.below None (ap (option_and_then (resolved (module_names ds))) result) is.below
  returned None (Some v) result fine = absurd (let e = fine in cc)
  returned (Some of) given result fine = value-returned of given result fine

  return-in : (k : Option DefinitionKind) (place : Place) (given : Option written.Value) → kind_at ds site.behaviour ≡ k → MayReturn ds k place → check_return here place.returns given ≡ [] → Asking (act_return stand site given)
  return-in (Some (kind.Function f)) place given kind-is may nothing =
      let wider : check_return scope place.returns given ≡ [] = return_stays ds f.returns place may given here scope (within stand well site is) nothing in
      returned f.returns given (ap result_type_of kind-is)
      (return_fits scope (results_known ds well) site.behaviour f kind-is given (subst (λ r. check_return scope r given ≡ []) may wider))
  return-in (Some (kind.Record r)) place given kind-is may nothing = absurd (may here given nothing)
  return-in (Some (kind.Enumerated e)) place given kind-is may nothing = absurd (may here given nothing)
  return-in (Some (kind.Port p)) place given kind-is may nothing = absurd (may here given nothing)
  return-in (Some (kind.Component c)) place given kind-is may nothing = absurd (may here given nothing)
  return-in (Some (kind.Constants cs)) place given kind-is may nothing = absurd (may here given nothing)
  return-in (Some (kind.Template t)) place given kind-is may nothing = absurd (may here given nothing)
  return-in (Some (kind.Altstep a)) place given kind-is may nothing = absurd (may here given nothing)
  return-in (Some (kind.Testcase t)) place given kind-is may nothing = absurd (may here given nothing)
  return-in None place given kind-is may nothing = absurd (may here given nothing)

  pub return-asks : (place : Place) (given : Option written.Value) → MayReturn ds (kind_at ds site.behaviour) place → check_return here place.returns given ≡ [] → Asking (act_return stand site given)
  return-asks place given may nothing = return-in (kind_at ds site.behaviour) place given refl may nothing

  -- ---- components

  any-component : (t : Typing) (o : Outcome ComponentId) → GivesOnly o (λ id. IsOfTyping ds t (value.Component id)) → GivesOnly o (λ id. Unit {0})
  any-component t (Yields c) of = tt
  any-component t (Fails DynamicError) of = tt
  any-component t (Fails Unmet) of = of

  pub wanted-component : (c : ComponentRef) → (check_wanted_component scope c).broken ≡ [] → GivesOnly (component_meant_at stand site c) (λ id. Unit {0})
  wanted-component c nothing =
      any-component (check_wanted_component scope c).typing (component_meant_at stand site c)
      (wanted_found c scope (reading stand well site is) (whole stand well site is) (fit stand well site is) (has stand well site is) nothing)

  ask-connects : (b : Bool) (one other : Act) → Asking one → Asking other → Asking (if b then one else other)
  ask-connects true one other is also = is
  ask-connects false one other is also = also

  pub connect-asks : (one other : PortRef) → check_ends here one.component other.component ≡ [] → Asking (act_connect stand site one other)
  connect-asks one other nothing =
      let wider = ends_stays one.component other.component here scope (within stand well site is) nothing in
      let first = (check_wanted_component scope one.component).broken in
      acting-fits stand.test ct stand.snapshot.itself.path (IsMeant stand.test stand.snapshot stand.own stand.frame) (λ c. Unit {0}) (λ c. acting (λ d. ask_connection stand c one.port d other.port) (component_meant_at stand site other.component)) (component_meant_at stand site one.component)
      (wanted-component one.component (nothing-first first (check_wanted_component scope other.component).broken wider))
      (λ c any. acting-fits stand.test ct stand.snapshot.itself.path (IsMeant stand.test stand.snapshot stand.own stand.frame) (λ d. Unit {0}) (λ d. ask_connection stand c one.port d other.port) (component_meant_at stand site other.component)
      (wanted-component other.component (nothing-rest first (check_wanted_component scope other.component).broken wider))
      (λ d any. ask-connects (may_connect ds c one.port d other.port) _ (Errs DynamicError) done-fits tt))

  asks-mapping : (b : Bool) (asked : Act) → Asking asked → Asking (if b then asked else Errs DynamicError)
  asks-mapping true asked is = is
  asks-mapping false asked is = tt

  operation-asks : (o : MapOperation) (c : ComponentId) (port system_port : List ℕ) → Asking (ask_operation stand o c port system_port)
  operation-asks operation.Map c port system_port =
      asks-mapping (may_map stand.test c port system_port) (Requests (Maps (record { component = c.path; port = port }) system_port) (done stand)) done-fits
  operation-asks operation.Unmap c port system_port = done-fits

  pub map-asks : (m : Mapping) → check_mapping here m ≡ [] → Asking (act_map stand site m)
  map-asks m nothing =
      acting-fits stand.test ct stand.snapshot.itself.path (IsMeant stand.test stand.snapshot stand.own stand.frame) (λ c. Unit {0}) (λ c. ask_operation stand m.operation c m.port.port m.system_port) (component_meant_at stand site m.port.component)
      (wanted-component m.port.component (mapping_stays m here scope (within stand well site is) nothing))
      (λ c any. operation-asks m.operation c m.port.port m.system_port)

  pub start-asks : (reference : ComponentRef) (call : Call) → check_start here reference call ≡ [] → Asking (act_start stand site reference call)
  start-asks reference call nothing =
      let starts : resolved_as.Starts scope reference call = started scope reference call (start_stays reference call here scope (within stand well site is) nothing) in
      let found = (check_component scope reference false).typing in
      let told = told-type found (component-typed scope (whole stand well site is) reference false starts.fine) (reference-told scope reference starts.fine) starts.component in
      let at : ℕ = starts.at in
      acting-fits stand.test ct stand.snapshot.itself.path (IsMeant stand.test stand.snapshot stand.own stand.frame) (λ id. IsOfTyping ds found (value.Component id) × (component_meant_at stand site reference ≡ Yields id)) (λ c. acting (λ frame. Requests (Starts c.path frame) (done stand)) (frame_of_call stand site call)) (component_meant_at stand site reference)
      (only-from (λ id. IsOfTyping ds found (value.Component id)) (component_meant_at stand site reference) (component_found reference scope (reading stand well site is) (whole stand well site is) (fit stand well site is) (has stand well site is) false starts.fine starts.component))
      (λ c of.
      let same : c.component_type ≡ told.0 = reference-type ds told.0 c (subst (λ t. IsOfTyping ds t (value.Component c)) told.1 of.0) in
      let on = subst (λ n. IfSome (component_named ds (component_name (kind_at ds at))) (λ m. n ≡ m)) (sym same)
      (runs-there-on ds told.0 (kind_at ds at) starts.function (subst (λ t. runs_there t (component_named ds (runs_on_of (kind_at ds at))) ≡ true) told.1 starts.runs)) in
      acting-fits stand.test ct stand.snapshot.itself.path (IsMeant stand.test stand.snapshot stand.own stand.frame) (λ frame. FitsFrame ds c.component_type at [] frame × Nest ds at [] frame.remaining) (λ frame. Requests (Starts c.path frame) (done stand)) (frame_of_call stand site call)
      (frame-called stand well site is c.component_type call at starts.meant starts.function on starts.arguments)
      (λ frame new. (record { reference = c; is_meant = (site, reference, of.1); is = refl; fits = (at, [], new.0, new.1, tt) }, done-fits)))

  -- ---- timers, and stops

  pub timer-asks : (name : List ℕ) (state : TimerState) → here.names name ≡ Some meaning.Timer → Asking (Requests Continues (set_timer stand.test site name state (done stand)))
  timer-asks name state timed =
      fits-at stand well site is site.declared (set_timer stand.test site name state (done stand))
      (timer-set stand.test well ct site is.on is.names name state Nesting (done stand) timed (remains stand well site is stand.rest nest))

  pub start-timer-asks : (name : List ℕ) → check_timer here name ≡ [] → Asking (Requests Continues (set_timer stand.test site name timer.Running (done stand)))
  start-timer-asks name nothing = timer-asks name timer.Running (is-timer (here.names name) (kept (is_timer_name (here.names name)) rule.UnknownName nothing))

  -- a timer that is meant is one that is visible
  visible-timer : (m : Option Meaning) (state : Option TimerState) → is_some m ≡ true → names_timer (or_timer state m) ≡ true → m ≡ Some meaning.Timer
  visible-timer (Some m) state there timed = timer-of (Some m) timed
  visible-timer None state there timed = absurd (let e = there in cc)

  stop-if : (timed : Bool) (reference : ComponentRef) → said.names_timer here reference ≡ timed → (if timed then [] else (check_wanted_component here reference).broken) ≡ [] → (r : Reference) → reference ≡ component.Named r → r.fields ≡ []
      → is_some (here.names r.name) ≡ true
  stop-if true reference same nothing r named bare =
      subst (λ m. is_some m ≡ true) (sym (timer-of (here.names r.name) (sym (same-test (here.names r.name)) ∙ sym (ap (λ fs. is_timer fs (here.names r.name)) bare)
      ∙ subst (λ c. said.names_timer here c ≡ true) named same))) refl
  stop-if false reference same nothing r named bare =
      name_resolves here r (nothing-first (check_reference here r).broken (unless (refers_to_component (check_reference here r).typing) rule.UnknownName)
      (subst (λ c. (check_wanted_component here c).broken ≡ []) named nothing))

  stop-component : (reference : ComponentRef) → (check_wanted_component scope reference).broken ≡ [] → Asking (acting (λ c. Requests (Stops c.path) (done stand)) (component_meant_at stand site reference))
  stop-component reference nothing =
      acting-fits stand.test ct stand.snapshot.itself.path (IsMeant stand.test stand.snapshot stand.own stand.frame) (λ c. Unit {0}) (λ c. Requests (Stops c.path) (done stand)) (component_meant_at stand site reference) (wanted-component reference nothing) (λ c any. stop-done done-fits)

  stop-named : (r : Reference) (fields : List (List ℕ)) → r.fields ≡ fields → check_stop here (component.Named r) ≡ [] → (o : Option Bool) → timer_of (reading stand well site is).timers fields r.name ≡ o
      → Asking (stop_meant stand site (component.Named r) o)
  stop-named r [] bare nothing (Some runs) found =
      timer-asks r.name timer.Inactive
      (visible-timer (here.names r.name) (entry (view stand well site is).timers r.name)
      (stop-if (said.names_timer here (component.Named r)) (component.Named r) refl nothing r refl bare)
      (sym (has-timers r.name) ∙ ap is_some found))
    where
      has-timers : (name : List ℕ) → is_some ((reading stand well site is).timers name) ≡ names_timer (scope.names name)
      has-timers = (has stand well site is).timers
  stop-named r [] bare nothing None found =
      stop-component (component.Named r) (wider-if (said.names_timer scope (component.Named r)) refl (stop_stays (component.Named r) here scope (within stand well site is) nothing))
    where
      wider-if : (b : Bool) → said.names_timer scope (component.Named r) ≡ b → (if b then [] else (check_wanted_component scope (component.Named r)).broken) ≡ [] → (check_wanted_component scope (component.Named r)).broken ≡ []
      wider-if false same broke = broke
      wider-if true same broke =
          absurd (let no : true ≡ false = sym same ∙ ap (λ fs. is_timer fs (scope.names r.name)) bare ∙ same-test (scope.names r.name) ∙ sym ((has stand well site is).timers r.name) ∙ ap is_some found in cc)
  stop-named r (field ∷ fields) bare nothing (Some runs) found = absurd (let e = found in cc)
  stop-named r (field ∷ fields) bare nothing None found =
      stop-component (component.Named r) (wider-if (said.names_timer scope (component.Named r)) refl (stop_stays (component.Named r) here scope (within stand well site is) nothing))
    where
      wider-if : (b : Bool) → said.names_timer scope (component.Named r) ≡ b → (if b then [] else (check_wanted_component scope (component.Named r)).broken) ≡ [] → (check_wanted_component scope (component.Named r)).broken ≡ []
      wider-if false same broke = broke
      wider-if true same broke = absurd (let no : true ≡ false = sym same ∙ ap (λ fs. is_timer fs (scope.names r.name)) bare in cc)

  pub stop-of-asks : (reference : ComponentRef) → check_stop here reference ≡ [] → Asking (act_stop_of stand site reference)
  stop-of-asks component.Itself nothing = stop-component component.Itself (stop_stays component.Itself here scope (within stand well site is) nothing)
  stop-of-asks component.Mtc nothing = stop-component component.Mtc (stop_stays component.Mtc here scope (within stand well site is) nothing)
  stop-of-asks (component.Named r) nothing = stop-named r r.fields refl nothing (timer_at (reading stand well site is) (component.Named r)) refl

  -- ---- defaults

  with-less : (defaults : List ActiveDefault) (own : Data) → FitsData ds ct own → All (FitsDefault ds ct) defaults → FitsData ds ct (with_defaults defaults own)
  with-less defaults own fits all = record { members = fits.members; calls = fits.calls; defaults = all; frames = fits.frames }

  pub deactivate-asks : (reference : Option Reference) → check_deactivate here reference ≡ [] → Asking (act_deactivate stand site reference)
  deactivate-asks None nothing = with-less [] (done stand) done-fits (All-nil (FitsDefault ds ct))
  deactivate-asks (Some r) nothing =
      continuing-fits stand.test ct stand.snapshot.itself.path (IsMeant stand.test stand.snapshot stand.own stand.frame) (outcome_and_then (λ v. without_default (done stand) (out-Value v)) (referred (reading stand well site is) r))
      (only-then (λ v. is_of ds type.Default v ≡ true) (FitsData ds ct) (λ v. without_default (done stand) (out-Value v)) (referred (reading stand well site is) r)
      (default_given r scope (reading stand well site is) (whole stand well site is) (fit stand well site is) (has stand well site is) (deactivate_stays (Some r) here scope (within stand well site is) nothing))
      (λ v goes. level-default ds (FitsData ds ct) (done stand) (out-Value v) (sym (goes-out ds v (target_of (Some type.Default))) ∙ goes) done-fits
      (λ n. with-less (filter (λ d. not (nat_eq d.number n)) (done stand).defaults) (done stand) done-fits
      (All-filter (λ d. not (nat_eq d.number n)) (FitsDefault ds ct) (done stand).defaults is.here.defaults))))

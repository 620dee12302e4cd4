-- What stands on the right of `:=` goes to its target, and declarations leave what is seen of the frame as they declare it.
use Rattle.std.proofs.Common.{◌≡◌, ℕ, Bool, true, false, ◌||◌, List, [], ◌∷◌, map, nat_lt, bytes_eq, slice_get, Option, Some, None, IsSomeAnd, refl, sym, ap, subst, ◌∙◌, if◌then◌else◌}
use Rattle.std.specs.List.{All, flat_map, list_any}
use Rattle.std.specs.Option.{option_and_then}
use Rattle.std.proofs.lemmas.List.Elements.{All-cons, All-nil}
use Rattle.std.proofs.lemmas.Slice.Eq.{bytes_eq-Decides}
use Rattle.ttcn_syntax.specs.declared.tree.definition.Definition.{Definition}
use Rattle.ttcn_syntax.specs.declared.tree.definition.DefinitionKind.{DefinitionKind}
use Rattle.ttcn_syntax.specs.declared.tree.definition.DefinitionKind.TheVariants as kind
use Rattle.ttcn_syntax.specs.declared.tree.definition.Parameter.{Parameter}
use Rattle.ttcn_syntax.specs.declared.tree.expression.Reference.{Reference}
use Rattle.ttcn_syntax.specs.declared.tree.statement.Action.TheOpen.{Action-F}
use Rattle.ttcn_syntax.specs.declared.tree.statement.Assignment.{Assignment}
use Rattle.ttcn_syntax.specs.declared.tree.statement.Constant.{Constant}
use Rattle.ttcn_syntax.specs.declared.tree.statement.ForStart.TheVariants as for_start
use Rattle.ttcn_syntax.specs.declared.tree.statement.Timer.{Timer}
use Rattle.ttcn_syntax.specs.declared.tree.statement.Variable.{Variable}
use Rattle.ttcn_syntax.specs.declared.tree.value.Call.{Call}
use Rattle.ttcn_syntax.specs.declared.tree.value.Rhs.{Rhs}
use Rattle.ttcn_syntax.specs.declared.tree.value.Rhs.TheVariants as rhs
use Rattle.ttcn_syntax.specs.declared.tree.value.Value as written
use Rattle.check_rules.specs.Calls.{altstep_meant, is_altstep, parameters_of, stands_alone}
use Rattle.check_rules.specs.Expressions.{along, check_meaning}
use Rattle.check_rules.specs.Targets.{as_target, check_assignment, check_constant, check_initial, check_new_name, check_rhs, check_target, check_timer_name, check_variable, last_optional, target_at}
use Rattle.check_rules.specs.Values as checked
use Rattle.check_scope.specs.Names.{Entry, Scope, component_meant, kind_at, members_of, module_names, resolved}
use Rattle.check_scope.specs.Typings.{target_of, type_known}
use Rattle.check_scope.specs.declared.names.Meaning.{Meaning}
use Rattle.check_scope.specs.declared.names.Meaning.TheVariants as meaning
use Rattle.check_scope.specs.declared.types.DataType.{DataType}
use Rattle.check_scope.specs.declared.types.DataType.TheVariants as type
use Rattle.check_scope.specs.declared.types.Target.{Target as Wanted}
use Rattle.check_scope.specs.declared.types.Typing.TheVariants as typing
use Rattle.laws_checker.proofs.Nothing.{nothing-first, nothing-rest}
use Rattle.laws_checker.specs.Laws.{IsKnown}
use Rattle.laws_evaluation.proofs.Only.{only-of, only-then}
use Rattle.laws_evaluation.proofs.Parameters.{all_parameters_known}
use Rattle.laws_evaluation.proofs.TypedRecords.{values_met, values_typed}
use Rattle.laws_evaluation.proofs.TypedTemplates.{arguments_met, arguments_typed}
use Rattle.laws_evaluation.proofs.TypedValues.{component-value-goes, goes-rolled}
use Rattle.laws_evaluation.specs.Types.{AreGiven, is_of, names_timer, value_goes}
use Rattle.laws_evaluation.specs.Uses.{GivesOnly}
use Rattle.laws_sites.proofs.Sites.{new-free}
use Rattle.laws_sites.specs.Standing.{IsFineName, IsFree}
use Rattle.laws_statements.proofs.Returning.{results_known}
use Rattle.laws_statements.proofs.RightSides.{assignment_fits, right_fits}
use Rattle.laws_statements.proofs.Within.{assignment_stays, rhs_stays, target_at_stays, value_stays}
use Rattle.laws_statements.specs.Resolved.{Activates}
use Rattle.laws_statements.specs.Targets as fine
use Rattle.laws_statements.specs.Targets.{GivesResult, IsAssignment, IsRightSide, IsVariable}
use Rattle.laws_statements.proofs.Growing.{new-unseen}
use Rattle.semantics.specs.Configurations.{Data, Frame, Queue}
use Rattle.semantics.specs.Creating.{new_component, new_members, ports_of}
use Rattle.semantics.specs.Items.{Does, Item, Target, Waiting}
use Rattle.semantics.specs.Sites.{Site, scope_at}
use Rattle.semantics.specs.Snapshots.{Test}
use Rattle.semantics.specs.Statements.{Act, Continues, Creates, Requests, Stand, act_assignment, act_constant, act_initial, act_name, act_timer, act_variable, acting, activate, activated, activated_at, assign, continuing, create, created, declared as declaring_data, declared_target, done, most, new_id, with_child}
use Rattle.semantics.specs.Storing.{declare, declare_timer, forget, store, target_meant, type_for}
use Rattle.check_rules.proofs.Meanings.{IfMeans}
use Rattle.check_rules.specs.Rules.{AreWellTyped}
use Rattle.value_types.specs.Frames.{entry}
use Rattle.value_types.specs.Literals.{value_wanted}
use Rattle.value_types.specs.Outcomes.{Outcome, Yields, dynamic_error}
use Rattle.value_types.specs.Templates.{arguments}
use Rattle.value_types.specs.declared.value.ComponentId.{ComponentId}
use Rattle.value_types.specs.declared.value.Value.{Value}
use Rattle.value_types.specs.declared.value.Value.TheOpen.{Value-F}
use Rattle.value_types.specs.declared.value.Value.TheVariants as value
use Rattle.laws_types.proofs.Data.{Any, data-changed, data-going, stored, stored-of}
use Rattle.laws_types.proofs.Declared.{own-behind, seen-declared, seen-forgotten, seen-timer}
use Rattle.laws_repeat.proofs.Outside.{outside-itself}
use Rattle.laws_types.proofs.NewFrames.{IsPart, module-meant}
use Rattle.laws_types.proofs.NewMembers.{new_members_fit}
use Rattle.laws_types.proofs.Stands.{Asks, At, NestHere, StandsAt, acting-fits, always-fits, call-asks, differ, fine-site, fit, fits-at, has, kind-of, known, locals, reading, remains, runs-there, value-function, function-alone, view, whole, wide, within}
use Rattle.laws_types.specs.internal.Asked.{IsMeant}
use Rattle.laws_types.specs.Fitting.{FitsMembers, IsLocal, IsValueOf, or_timer, view_of}
use Rattle.laws_types.specs.Typed.{AreDeclared, Declares, FitsComponent, FitsDefault, FitsFrame, FitsMessage, IsTarget, result_of, site_of}

-- ---- new components

port-names : (names : List (List ℕ)) → map (λ (queue : Queue). queue.0) (map (λ name. (name, [])) names) ≡ names
port-names [] = refl
port-names (name ∷ names) = ap (λ others. name ∷ others) (port-names names)

no-messages : (definitions : List Definition) (names : List (List ℕ)) → All (λ (queue : Queue). All (FitsMessage definitions) queue.1) (map (λ name. (name, [])) names)
no-messages definitions [] = All-nil (λ (queue : Queue). All (FitsMessage definitions) queue.1)
no-messages definitions (name ∷ names) =
    All-cons (λ (queue : Queue). All (FitsMessage definitions) queue.1) (name, []) (map (λ name. (name, [])) names) (All-nil (FitsMessage definitions)) (no-messages definitions names)

pub component-fits : (test : Test) (new : ComponentId) (members : Frame) → FitsMembers test.definitions new.component_type (view_of members) → FitsComponent test.definitions (new_component test new members)
component-fits test new members fits = record {
  own = record { members = fits; calls = tt; defaults = All-nil (FitsDefault test.definitions new.component_type) };
  running = λ is. absurd (let e = is in cc);
  queues = record {
    ports = port-names (flat_map ports_of (members_of (kind_at test.definitions new.component_type)));
    messages = no-messages test.definitions (flat_map ports_of (members_of (kind_at test.definitions new.component_type)));
  };
}

new-if : (test : Test) (new : ComponentId) (b : Bool) (o : Outcome Frame) → GivesOnly o (λ frame. FitsMembers test.definitions new.component_type (view_of frame))
    → GivesOnly (if b then o else dynamic_error) (λ frame. FitsMembers test.definitions new.component_type (view_of frame))
new-if test new true o is = is
new-if test new false o is = tt

default-goes : (definitions : List Definition) (n : ℕ) → is_of definitions type.Default (value.Default n) ≡ true
default-goes definitions n =
    ap (λ v. value_goes v definitions (target_of (Some type.Default))) (sym (value.rolls-Default n)) ∙ goes-rolled definitions (Value-F.Default n) (target_of (Some type.Default))

no-component : (m : Option Meaning) → IfMeans IsPart m → component_meant m ≡ None
no-component None is = refl
no-component (Some (meaning.Variable of)) is = refl
no-component (Some (meaning.Constant of)) is = refl
no-component (Some (meaning.Port of)) is = refl
no-component (Some meaning.Timer) is = refl
no-component (Some _) is = absurd is

no-altstep : (m : Option Meaning) → IfMeans IsPart m → altstep_meant m ≡ None
no-altstep None is = refl
no-altstep (Some (meaning.Variable of)) is = refl
no-altstep (Some (meaning.Constant of)) is = refl
no-altstep (Some (meaning.Port of)) is = refl
no-altstep (Some meaning.Timer) is = refl
no-altstep (Some _) is = absurd is

altstep-alone : (k : Option DefinitionKind) → is_altstep k ≡ true → stands_alone k ≡ true
altstep-alone (Some (kind.Altstep a)) is = refl
altstep-alone _ is = absurd (let e = is in cc)

any-or : (a b : Bool) → b ≡ true → true ≡ (a || b)
any-or true b is = refl
any-or false b is = sym is

first-or : (a b : Bool) → a ≡ true → (a || b) ≡ true
first-or true b is = refl
first-or false b is = absurd (let e = is in cc)

visible-back : {A : Type 0} (found : Option A) (m : Option Meaning) (of : Option DataType) → or_timer found m ≡ Some (meaning.Variable of) → m ≡ Some (meaning.Variable of)
visible-back found (Some m) of is = is
visible-back None None of is = is
visible-back (Some a) None of is = absurd (let e = is in cc)

module _ (stand : Stand) (well : AreWellTyped stand.test.definitions) (site : Site) (is : StandsAt stand site) where
  abbrev ds : List Definition
  ds = stand.test.definitions

  abbrev b : ℕ
  b = site.behaviour

  abbrev Asking : Act → Type 0
  Asking asked = Asks stand well site is asked

  abbrev Now : List Entry → (List Item → Type 0) → Data → Type 0
  Now declared R own = At stand well site is declared R own

  abbrev Nesting : List Entry → List Item → Type 0
  Nesting declared xs = NestHere stand well site is declared xs

  abbrev scope : Scope
  scope = wide stand well site is

  abbrev component_type : ℕ
  component_type = kind-of stand well site is

  altstep-there : (name : List ℕ) (at : ℕ) → altstep_meant (scope.names name) ≡ Some at → altstep_meant (module_names ds name) ≡ Some at
  altstep-there name at meant = module-meant altstep_meant no-altstep ds well site (view stand well site is) (fine-site stand well site is) (locals stand well site is) name at meant

  component-there : (name : List ℕ) (at : ℕ) → component_meant (scope.names name) ≡ Some at → component_meant (module_names ds name) ≡ Some at
  component-there name at meant = module-meant component_meant no-component ds well site (view stand well site is) (fine-site stand well site is) (locals stand well site is) name at meant

  -- ---- activations

  activate-if : (test : Bool) (declared : List Entry) (R : List Item → Type 0) (at : ℕ) (own : Data) (values : List Value) → FitsDefault ds component_type (record { number = 0; altstep = at; arguments = values }) → Now declared R own
      → GivesOnly (if test then Yields (activate at own values) else dynamic_error) (Now declared R)
  activate-if true declared R at own values new fits = record {
    members = fits.members;
    last = fits.last;
    defaults = All-cons (FitsDefault ds component_type) _ own.defaults (record { kind = new.kind; on = new.on; arguments = new.arguments }) fits.defaults;
  }
  activate-if false declared R at own values new fits = tt

  pub activated-fits : (declared : List Entry) (R : List Item → Type 0) (call : Call) (own : Data) → Activates scope call → Now declared R own → GivesOnly (activated stand site call own) (Now declared R)
  activated-fits declared R call own activates fits =
      let at : ℕ = activates.at in
      let ps = parameters_of (kind_at ds at) in
      let read = reading stand well site is in
      subst (λ m. GivesOnly (activated_at stand site call own m) (Now declared R)) (sym (altstep-there call.name at activates.meant))
      (only-then (AreGiven ds ps) (Now declared R) (λ values. if nat_lt own.activations most then Yields (activate at own values) else dynamic_error) (arguments read ps call.arguments)
      (only-of (AreGiven ds ps) (arguments read ps call.arguments)
      (arguments_met scope read (whole stand well site is) (differ stand well site is) (known stand well site is) (fit stand well site is) (has stand well site is) ps call.arguments (all_parameters_known ds well at) activates.arguments)
      (arguments_typed scope read (whole stand well site is) (differ stand well site is) (fit stand well site is) ps call.arguments activates.arguments))
      (λ values of. activate-if (nat_lt own.activations most) declared R at own values
      (record { kind = activates.kind; on = runs-there stand well site is at (altstep-alone (kind_at ds at) activates.kind) activates.runs; arguments = of }) fits))

  -- ---- right sides

  module _ (declared : List Entry) (names : AreDeclared ds b declared) (target : Target) (t : DataType) (goal : IsTarget ds (site_of b declared) target t) (own : Data) (fits : Now declared (Nesting declared) own)
      (nest : Nesting declared stand.rest) where
    abbrev o : Bool
    o = last_optional ds (typing.Known goal.of) false target.reference.fields

    store-asks : (v : Value) → value_goes v ds (record { data_type = Some t; optional = o }) ≡ true → Asking (continuing (store stand.test target v own))
    store-asks v goes =
        always-fits stand.test component_type stand.snapshot.itself.path (IsMeant stand.test stand.snapshot stand.own stand.frame) (Now declared (Nesting declared)) (Requests Continues) (store stand.test target v own)
        (stored stand.test well component_type (site_of b declared) is.on names target t goal (Nesting declared) own v goes fits) (λ new also. fits-at stand well site is declared new also)

    value-asks : (v : written.Value) → checked.value v scope (record { data_type = Some t; optional = o }) ≡ [] → Asking (assign stand site target (Some t) own (rhs.Value v))
    value-asks v nothing =
        let read = reading stand well site is in
        acting-fits stand.test component_type stand.snapshot.itself.path (IsMeant stand.test stand.snapshot stand.own stand.frame) (λ w. value_goes w ds (record { data_type = Some t; optional = o }) ≡ true) (λ found. continuing (store stand.test target found own)) (value_wanted v read (Some t))
        (only-of (λ w. value_goes w ds (record { data_type = Some t; optional = o }) ≡ true) (value_wanted v read (Some t))
        (values_met v scope read (whole stand well site is) (differ stand well site is) (fit stand well site is) (has stand well site is) t o nothing)
        (values_typed v scope read (whole stand well site is) (differ stand well site is) (fit stand well site is) t o nothing))
        store-asks

    with-one-more : (changed : Data) → Now declared (Nesting declared) changed → Now declared (Nesting declared) (with_child changed)
    with-one-more changed also = record { members = also.members; last = also.last; defaults = also.defaults }

    create-asks : (at : ℕ) → t ≡ type.Component at → Asking (create stand target own (new_id stand own at))
    create-asks at same =
        let new : ComponentId = new_id stand own at in
        acting-fits stand.test component_type stand.snapshot.itself.path (IsMeant stand.test stand.snapshot stand.own stand.frame) (λ frame. FitsMembers ds at (view_of frame))
        (λ members. acting (λ changed. Requests (Creates (new_component stand.test new members)) (with_child changed)) (store stand.test target (value.Component new) own))
        (if nat_lt own.children most then new_members stand.test new stand.snapshot else dynamic_error)
        (new-if stand.test new (nat_lt own.children most) (new_members stand.test new stand.snapshot) (new_members_fit stand.test new stand.snapshot well))
        (λ members fit. always-fits stand.test component_type stand.snapshot.itself.path (IsMeant stand.test stand.snapshot stand.own stand.frame) (Now declared (Nesting declared)) (λ changed. Requests (Creates (new_component stand.test new members)) (with_child changed)) (store stand.test target (value.Component new) own)
        (stored-of stand.test well component_type (site_of b declared) is.on names target t goal (Nesting declared) own (value.Component new) (subst (λ t. is_of ds t (value.Component new) ≡ true) (sym same) (component-value-goes ds new)) fits)
        (λ changed also. (component-fits stand.test new members fit, fits-at stand well site is declared (with_child changed) (with-one-more changed also))))

    created-asks : (name : List ℕ) → fine.Creates scope t name → Asking (created stand target own (component_meant (module_names ds name)))
    created-asks name creates =
        subst (λ m. Asking (created stand target own m)) (sym (component-there name creates.at creates.meant)) (create-asks creates.at creates.is)

    result-is : (call : Call) (gives : GivesResult scope t call) → result_of ds gives.resolves.at ≡ Some t
    result-is call gives = ap (option_and_then (resolved (module_names ds))) gives.result ∙ gives.is

    result-asks : (call : Call) → GivesResult scope t call → Asking (assign stand site target (Some t) own (rhs.Call call))
    result-asks call gives =
        let at : ℕ = gives.resolves.at in
        let function = value-function (kind_at ds at) gives.resolves.kind in
        call-asks stand well site is declared (Nesting declared) call own (Waiting target ∷ stand.rest) at gives.resolves.meant function
        (runs-there stand well site is at (function-alone (kind_at ds at) function) gives.resolves.runs) gives.resolves.arguments
        (site_of b declared, t, (refl, outside-itself declared), goal, result-is call gives, nest) fits

    default-asks : (call : Call) → Activates scope call → t ≡ type.Default → Asking (assign stand site target (Some t) own (rhs.Activate call))
    default-asks call activates same =
        acting-fits stand.test component_type stand.snapshot.itself.path (IsMeant stand.test stand.snapshot stand.own stand.frame) (Now declared (Nesting declared)) (λ changed. continuing (store stand.test target (value.Default changed.activations) changed)) (activated stand site call own)
        (activated-fits declared (Nesting declared) call own activates fits)
        (λ changed also. always-fits stand.test component_type stand.snapshot.itself.path (IsMeant stand.test stand.snapshot stand.own stand.frame) (Now declared (Nesting declared)) (Requests Continues) (store stand.test target (value.Default changed.activations) changed)
        (stored-of stand.test well component_type (site_of b declared) is.on names target t goal (Nesting declared) changed (value.Default changed.activations)
        (subst (λ t. is_of ds t (value.Default changed.activations) ≡ true) (sym same) (default-goes ds changed.activations)) also) (λ new more. fits-at stand well site is declared new more))

    pub right-asks : (right : Rhs) → IsRightSide scope t o right → Asking (assign stand site target (Some t) own right)
    right-asks (rhs.Value v) side = value-asks v side
    right-asks (rhs.Create name) side = created-asks name side
    right-asks (rhs.Call call) side = result-asks call side
    right-asks (rhs.Activate call) side = default-asks call side.0 side.1

  -- ---- assignments

  abbrev here : Scope
  here = scope_at ds site

  -- the type of a target, and whether `omit` goes there
  abbrev wanted-as : Option DataType → Bool → Wanted
  wanted-as t optional = record { data_type = t; optional = optional }

  target-of : (reference : Reference) (t : DataType) (variable : IsVariable scope reference t) → target_at scope reference ≡ wanted-as (Some t) (last_optional ds (typing.Known variable.of) false reference.fields)
  target-of reference t variable =
      subst (λ m. wanted-as (type_known (along ds (as_target ds m).typing reference.fields).typing) (last_optional ds (as_target ds m).typing false reference.fields)
      ≡ wanted-as (Some t) (last_optional ds (typing.Known variable.of) false reference.fields)) (sym variable.variable)
      (ap (λ u. wanted-as (type_known u) (last_optional ds (typing.Known variable.of) false reference.fields)) variable.is)

  pub is-variable : (reference : Reference) (t : DataType) (variable : IsVariable scope reference t) → here.names reference.name ≡ Some (meaning.Variable (Some variable.of))
  is-variable reference t variable = visible-back (entry stand.snapshot.timers reference.name) (here.names reference.name) (Some variable.of) variable.variable

  abbrev pub target-stands : (reference : Reference) (t : DataType) → IsVariable scope reference t → IsTarget ds site (target_meant stand.test site reference) t
  target-stands reference t variable = record {
    own = refl;
    of = variable.of;
    variable = is-variable reference t variable;
    fields = variable.fields;
    is = variable.is;
    data_type = ap (type_for reference.fields) (ap (λ m. type_known (check_meaning here.definitions m).typing) (is-variable reference t variable));
  }

  pub assignment-asks : (a : Assignment) → check_assignment here a ≡ [] → Nesting site.declared stand.rest → Asking (act_assignment stand site a)
  assignment-asks a nothing nest =
      let target-fine : (check_target here a.target).broken ≡ [] = nothing-first (check_target here a.target).broken (check_rhs here (target_at here a.target) a.value) nothing in
      let fits : IsAssignment scope a = assignment_fits scope (results_known ds well) (whole stand well site is) a (assignment_stays a here scope (within stand well site is) nothing) in
      let t : DataType = fits.data_type in
      let same : target_at here a.target ≡ wanted-as (Some t) (last_optional ds (typing.Known fits.target.of) false a.target.fields) =
      sym (target_at_stays here scope (within stand well site is) a.target target-fine) ∙ target-of a.target t fits.target in
      subst (λ w. Asking (assign stand site (target_meant stand.test site a.target) w (done stand) a.value)) (sym (ap (λ (w : Wanted). w.data_type) same))
      (right-asks site.declared is.names (target_meant stand.test site a.target) t (target-stands a.target t fits.target) (done stand) (remains stand well site is stand.rest nest) nest a.value
      (subst (λ (w : Wanted). IsRightSide scope t w.optional a.value) (target-of a.target t fits.target) fits.right))

  -- ---- declarations

  module _ (name : List ℕ) (m : Meaning) (of-local : IsLocal m) (of-known : IsKnown ds m) (unseen : here.names name ≡ None) (nest : Nesting ((name, m) ∷ site.declared) stand.rest) where
    abbrev next : List Entry
    next = (name, m) ∷ site.declared

    next-names : AreDeclared ds b next
    next-names = (of-local, of-known, unseen, is.names)

    free : IsFree ds b name
    free = new-free ds b site name (fine-site stand well site is) unseen

    behind : (change : Frame → Frame) → ((frame : Frame) → FitsFrame ds component_type b site.declared frame → Nesting next frame.remaining → FitsFrame ds component_type b next (change frame) × Nesting next (change frame).remaining)
        → Now next (Nesting next) (declaring_data stand change)
    behind change keeps =
        data-changed ds component_type b site.declared next (Nesting next) (Nesting next) change keeps (done stand)
        (data-going ds component_type b site.declared Any (Nesting next) stand.rest stand.own nest is.here)

    pub behind-forgotten : names_timer (Some m) ≡ false → Now next (Nesting next) (declaring_data stand (forget name))
    behind-forgotten no-timer =
        behind (forget name) (λ frame fits remains. (record { on = fits.on; names = next-names; seen = seen-forgotten ds well b site.declared frame name m free fits.seen no-timer }, remains))

    pub behind-declared : (v : Value) → names_timer (Some m) ≡ false → IsValueOf ds (Some m) v → Now next (Nesting next) (declaring_data stand (declare name v))
    behind-declared v no-timer of =
        behind (declare name v) (λ frame fits remains. (record { on = fits.on; names = next-names; seen = seen-declared ds well b site.declared frame name m free fits.seen v no-timer of }, remains))

    pub behind-timer : names_timer (Some m) ≡ true → Now next (Nesting next) (declaring_data stand (declare_timer name))
    behind-timer timed =
        behind (declare_timer name) (λ frame fits remains. (record { on = fits.on; names = next-names; seen = seen-timer ds well b site.declared frame name m free fits.seen timed }, remains))

  -- a new name as a target
  new-target : (name : List ℕ) (t : DataType) → IsTarget ds (site_of b ((name, meaning.Variable (Some t)) ∷ site.declared)) (declared_target name) t
  new-target name t = record {
    own = any-or (list_any (λ (p : Parameter). bytes_eq p.name name) (parameters_of (kind_at ds b)))
        (bytes_eq name name || list_any (λ (e : Entry). bytes_eq e.0 name) site.declared)
        (first-or (bytes_eq name name) (list_any (λ (e : Entry). bytes_eq e.0 name) site.declared) ((bytes_eq-Decides name name).1 refl));
    of = t;
    variable = own-behind here (name, meaning.Variable (Some t));
    fields = refl;
    is = refl;
    data_type = refl;
  }

  initial-asks : (t : DataType) (name : List ℕ) (v : Option Rhs) → here.names name ≡ None → check_initial here (target_of (Some t)) v ≡ [] → Nesting ((name, meaning.Variable (Some t)) ∷ site.declared) stand.rest
      → Asking (act_initial stand site (Some t) name v)
  initial-asks t name None unseen nothing nest =
      fits-at stand well site is ((name, meaning.Variable (Some t)) ∷ site.declared) (declaring_data stand (forget name)) (behind-forgotten name (meaning.Variable (Some t)) tt refl unseen nest refl)
  initial-asks t name (Some right) unseen nothing nest =
      right-asks ((name, meaning.Variable (Some t)) ∷ site.declared) (tt, refl, unseen, is.names) (declared_target name) t (new-target name t) (declaring_data stand (forget name))
      (behind-forgotten name (meaning.Variable (Some t)) tt refl unseen nest refl) nest right
      (right_fits scope (results_known ds well) t false right (rhs_stays (target_of (Some t)) right here scope (within stand well site is) nothing))

  variable-asks : (of : Option DataType) (v : Option Variable) (after : List Entry) (entry : Entry) → IsSomeAnd v (λ v. check_variable of here v ≡ []) → IsSomeAnd v (λ v. entry ≡ (v.name, meaning.Variable of)) → IsKnown ds entry.1
      → after ≡ entry ∷ site.declared → Nesting after stand.rest → Asking (act_variable stand site of v)
  variable-asks of None after entry rules declares known-entry same nest = absurd rules
  variable-asks None (Some v) after entry rules declares known-entry same nest =
      absurd (let e = subst (λ (e : Entry). IsKnown ds e.1) declares known-entry in cc)
  variable-asks (Some t) (Some v) after entry rules declares known-entry same nest =
      initial-asks t v.name v.value (new-unseen here.names v.name (nothing-first (check_new_name here.names v.name) (check_initial here (target_of (Some t)) v.value) rules))
      (nothing-rest (check_new_name here.names v.name) (check_initial here (target_of (Some t)) v.value) rules)
      (subst (λ (e : Entry). Nesting (e ∷ site.declared) stand.rest) declares (subst (λ n. Nesting n stand.rest) same nest))

  constant-asks : (of : Option DataType) (c : Option Constant) (after : List Entry) (entry : Entry) → IsSomeAnd c (λ c. check_constant of here c ≡ []) → IsSomeAnd c (λ c. entry ≡ (c.name, meaning.Constant of)) → IsKnown ds entry.1
      → after ≡ entry ∷ site.declared → Nesting after stand.rest → Asking (act_constant stand site of c)
  constant-asks of None after entry rules declares known-entry same nest = absurd rules
  constant-asks None (Some c) after entry rules declares known-entry same nest =
      absurd (let e = subst (λ (e : Entry). IsKnown ds e.1) declares known-entry in cc)
  constant-asks (Some t) (Some c) after entry rules declares known-entry same nest =
      let read = reading stand well site is in
      let unseen = new-unseen here.names c.name (nothing-first (check_new_name here.names c.name) (checked.value c.value here (target_of (Some t))) rules) in
      let nothing = value_stays c.value (target_of (Some t)) here scope (within stand well site is) (nothing-rest (check_new_name here.names c.name) (checked.value c.value here (target_of (Some t))) rules) in
      let nested : Nesting ((c.name, meaning.Constant (Some t)) ∷ site.declared) stand.rest = subst (λ (e : Entry). Nesting (e ∷ site.declared) stand.rest) declares (subst (λ n. Nesting n stand.rest) same nest) in
      acting-fits stand.test component_type stand.snapshot.itself.path (IsMeant stand.test stand.snapshot stand.own stand.frame) (λ w. is_of ds t w ≡ true) (λ v. Requests Continues (declaring_data stand (declare c.name v))) (value_wanted c.value read (Some t))
      (only-of (λ w. is_of ds t w ≡ true) (value_wanted c.value read (Some t))
      (values_met c.value scope read (whole stand well site is) (differ stand well site is) (fit stand well site is) (has stand well site is) t false nothing)
      (values_typed c.value scope read (whole stand well site is) (differ stand well site is) (fit stand well site is) t false nothing))
      (λ v of. fits-at stand well site is ((c.name, meaning.Constant (Some t)) ∷ site.declared) (declaring_data stand (declare c.name v)) (behind-declared c.name (meaning.Constant (Some t)) tt refl unseen nested v refl of))

  timer-asks : (t : Option Timer) (after : List Entry) (entry : Entry) → IsSomeAnd t (λ t. check_timer_name here t ≡ []) → IsSomeAnd t (λ t. entry ≡ (t.name, meaning.Timer))
      → after ≡ entry ∷ site.declared → Nesting after stand.rest → Asking (act_timer stand t)
  timer-asks None after entry rules declares same nest = absurd rules
  timer-asks (Some t) after entry rules declares same nest =
      fits-at stand well site is ((t.name, meaning.Timer) ∷ site.declared) (declaring_data stand (declare_timer t.name))
      (behind-timer t.name meaning.Timer tt tt (new-unseen here.names t.name rules) (subst (λ (e : Entry). Nesting (e ∷ site.declared) stand.rest) declares (subst (λ n. Nesting n stand.rest) same nest)) refl)

  -- a name is declared
  pub name-asks : (k : ℕ) (x : Does) (after : List Entry) (entry : Entry) → IsFineName here k x → Declares here k x entry → IsKnown ds entry.1 → after ≡ entry ∷ site.declared → Nesting after stand.rest → Asking (act_name stand site k x)
  name-asks k (Action-F.Variables vs) after entry rules declares known-entry same nest = variable-asks (resolved here.names vs.type_name) (slice_get vs.variables k) after entry rules declares known-entry same nest
  name-asks k (Action-F.For (for_start.Variables vs) condition step block) after entry rules declares known-entry same nest =
      variable-asks (resolved here.names vs.type_name) (slice_get vs.variables k) after entry rules declares known-entry same nest
  name-asks k (Action-F.Constants cs) after entry rules declares known-entry same nest = constant-asks (resolved here.names cs.type_name) (slice_get cs.constants k) after entry rules declares known-entry same nest
  name-asks k (Action-F.Timers timers) after entry rules declares known-entry same nest = timer-asks (slice_get timers k) after entry rules declares same nest
  name-asks k _ after entry rules declares known-entry same nest = absurd rules

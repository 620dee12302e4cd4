-- Where a component stands at a site: what is read there, what it goes on with, and the frames that it calls.
use Rattle.std.proofs.Common.{◌≡◌, ℕ, Bool, true, false, List, [], ◌∷◌, length, nat_lt, Option, Some, None, IfSome, is_some, refl, sym, subst, ◌∙◌, if◌then◌else◌}
use Rattle.ttcn_syntax.specs.declared.tree.definition.Definition.{Definition}
use Rattle.ttcn_syntax.specs.declared.tree.definition.DefinitionKind.{DefinitionKind}
use Rattle.ttcn_syntax.specs.declared.tree.definition.DefinitionKind.TheVariants as kind
use Rattle.ttcn_syntax.specs.declared.tree.statement.Statement.{Statement}
use Rattle.ttcn_syntax.specs.declared.tree.value.Call.{Call}
use Rattle.ttcn_syntax.specs.declared.tree.value.Value as written
use Rattle.check_rules.specs.Calls.{behaviour_meant, component_named, gives_value, is_altstep, parameters_of, runs_here, runs_on_of, stands_alone}
use Rattle.check_scope.specs.Names.{Entry, Scope, kind_at, module_names}
use Rattle.check_scope.specs.declared.names.Meaning.{Meaning}
use Rattle.check_scope.specs.declared.names.Meaning.TheVariants as meaning
use Rattle.check_scope.specs.declared.types.DataType.{DataType}
use Rattle.check_rules.specs.Statements.{is_function, statements}
use Rattle.laws_checker.proofs.Fitting.{same-number}
use Rattle.laws_checker.specs.Laws.{AreArguments, IsWhole}
use Rattle.laws_evaluation.proofs.ModuleReadings.{parameters_known}
use Rattle.laws_evaluation.proofs.Only.{only-of}
use Rattle.laws_evaluation.proofs.Parameters.{all_parameters_known}
use Rattle.laws_evaluation.proofs.TypedChains.{fields_differ}
use Rattle.laws_evaluation.proofs.TypedTemplates.{arguments_met, arguments_typed}
use Rattle.laws_evaluation.specs.Types.{AreGiven, FieldsDiffer, FitsIn, HasAll, ParametersKnown, names_timer}
use Rattle.laws_evaluation.specs.Uses.{GivesAlways, GivesOnly}
use Rattle.laws_sites.proofs.Outside.{Begins, body-fine}
use Rattle.laws_sites.specs.Standing.{IsFineSite}
use Rattle.laws_statements.specs.Within.{IsWithin}
use Rattle.semantics.specs.Configurations.{Data, Frame}
use Rattle.semantics.specs.Items.{Doing, Item, Mark, Waiting, items}
use Rattle.semantics.specs.Sites.{Site, beginning, component_name, runs_on, scope_at}
use Rattle.semantics.specs.Snapshots.{Test, View, last_view, members_in}
use Rattle.semantics.specs.Statements.{Act, Stand, acting, body_of, call_function, called_frame, continuing, enter, frame_at, frame_of_call, function_frame, most, reads, with_frames}
use Rattle.semantics.specs.Storing.{going_on, in_last, with_calls, with_remaining}
use Rattle.check_rules.proofs.Meanings.{IfMeans}
use Rattle.check_rules.specs.Rules.{AreWellTyped}
use Rattle.value_types.specs.Frames.{entry}
use Rattle.value_types.specs.Outcomes.{DynamicError, Fails, Outcome, Unmet, Yields, dynamic_error, outcome_map}
use Rattle.value_types.specs.Readings.{Reading}
use Rattle.value_types.specs.Templates.{arguments}
use Rattle.value_types.specs.declared.path.Path.{Path}
use Rattle.value_types.specs.declared.value.ComponentId.{ComponentId}
use Rattle.laws_types.proofs.Data.{Any, DataAt, LastAt, data-fits, data-going}
use Rattle.laws_types.proofs.Declared.{declared-fine, declared-locals}
use Rattle.laws_types.proofs.NewFrames.{IsPart, body-nests, frame-begins, module-meant}
use Rattle.laws_types.proofs.Readings.{seen-whole, seen-within, site-fits, site-has}
use Rattle.laws_types.specs.internal.Asked.{FitsAct, IsMeant}
use Rattle.laws_types.specs.Fitting.{DeclaresLocals, FitsMembers, FitsSite, RunsOn, scope_seen, view_of}
use Rattle.laws_types.specs.Typed.{AreDeclared, Awaits, FitBelow, FitsData, FitsFrame, Nest, result_of}

-- ---- what may fail

pub only-mapped : {A B : Type 0} (Q : A → Type 0) (P : B → Type 0) (f : A → B) (o : Outcome A) → GivesOnly o Q → ((a : A) → Q a → P (f a)) → GivesOnly (outcome_map f o) P
only-mapped Q P f (Yields a) is more = more a is
only-mapped Q P f (Fails DynamicError) is more = tt
only-mapped Q P f (Fails Unmet) is more = is

-- what is given is what stands there
pub only-from : {A : Type 0} (P : A → Type 0) (o : Outcome A) → GivesOnly o P → GivesOnly o (λ a. P a × (o ≡ Yields a))
only-from P (Yields a) is = (is, refl)
only-from P (Fails DynamicError) is = tt
only-from P (Fails Unmet) is = is

module _ (test : Test) (component_type : ℕ) (at : Path) (M : ComponentId → Type 0) where
  pub acting-fits : {A : Type 0} (P : A → Type 0) (f : A → Act) (o : Outcome A) → GivesOnly o P → ((a : A) → P a → FitsAct test component_type at M (f a)) → FitsAct test component_type at M (acting f o)
  acting-fits P f (Yields a) is more = more a is
  acting-fits P f (Fails DynamicError) is more = tt
  acting-fits P f (Fails Unmet) is more = is

  pub always-fits : {A : Type 0} (P : A → Type 0) (f : A → Act) (o : Outcome A) → GivesAlways o P → ((a : A) → P a → FitsAct test component_type at M (f a)) → FitsAct test component_type at M (acting f o)
  always-fits P f (Yields a) is more = more a is
  always-fits P f (Fails why) is more = absurd is

  pub continuing-fits : (o : Outcome Data) → GivesOnly o (FitsData test.definitions component_type) → FitsAct test component_type at M (continuing o)
  continuing-fits (Yields own) is = is
  continuing-fits (Fails DynamicError) is = tt
  continuing-fits (Fails Unmet) is = is

-- ---- what is called

-- functions and altsteps say on what they run
runs-callee : (k : Option DefinitionKind) → stands_alone k ≡ true → component_name k ≡ runs_on_of k
runs-callee (Some (kind.Function f)) is = refl
runs-callee (Some (kind.Altstep a)) is = refl
runs-callee _ is = absurd (let e = is in cc)

pub function-alone : (k : Option DefinitionKind) → is_function k ≡ true → stands_alone k ≡ true
function-alone (Some (kind.Function f)) is = refl
function-alone _ is = absurd (let e = is in cc)

pub value-function : (k : Option DefinitionKind) → gives_value k ≡ true → is_function k ≡ true
value-function (Some (kind.Function f)) is = refl
value-function _ is = absurd (let e = is in cc)

pub runs-on-same : (callee here : Option ℕ) (component_type : ℕ) → runs_here callee here ≡ true → IfSome here (λ at. component_type ≡ at) → IfSome callee (λ at. component_type ≡ at)
runs-on-same None here component_type runs on = tt
runs-on-same (Some at) (Some caller) component_type runs on = on ∙ sym (same-number at caller runs)
runs-on-same (Some at) None component_type runs on = absurd (let e = runs in cc)

-- an altstep that may be called here runs on this type
pub altstep-runs : (definitions : List Definition) (at : ℕ) (here : Option ℕ) (component_type : ℕ) → is_altstep (kind_at definitions at) ≡ true
    → runs_here (component_named definitions (runs_on_of (kind_at definitions at))) here ≡ true → IfSome here (λ n. component_type ≡ n) → RunsOn definitions at component_type
altstep-runs definitions at here component_type altstep runs on =
    subst (λ name. IfSome (component_named definitions name) (λ n. component_type ≡ n)) (sym (runs-callee (kind_at definitions at) (altstep-alone (kind_at definitions at) altstep)))
    (runs-on-same (component_named definitions (runs_on_of (kind_at definitions at))) here component_type runs on)
  where
    altstep-alone : (k : Option DefinitionKind) → is_altstep k ≡ true → stands_alone k ≡ true
    altstep-alone (Some (kind.Altstep a)) is = refl
    altstep-alone _ is = absurd (let e = is in cc)

function-body : (k : Option DefinitionKind) → is_function k ≡ true → is_some (body_of k) ≡ true
function-body (Some (kind.Function f)) is = refl
function-body _ is = absurd (let e = is in cc)

pub no-behaviour : (m : Option Meaning) → IfMeans IsPart m → behaviour_meant m ≡ None
no-behaviour None is = refl
no-behaviour (Some (meaning.Variable of)) is = refl
no-behaviour (Some (meaning.Constant of)) is = refl
no-behaviour (Some (meaning.Port of)) is = refl
no-behaviour (Some meaning.Timer) is = refl
no-behaviour (Some _) is = absurd is

-- ---- where a component stands

-- in a frame with these names declared, which fits, as do the component's members and defaults, and the frames below
pub record StandsAt (stand : Stand) (site : Site) : Type 0 where
  pub on : RunsOn stand.test.definitions site.behaviour stand.snapshot.itself.component_type
  pub names : AreDeclared stand.test.definitions site.behaviour site.declared
  pub seen : FitsSite stand.test.definitions site (view_of stand.frame)
  pub timers : (name : List ℕ) → is_some (entry stand.snapshot.timers name) ≡ is_some (entry stand.frame.timers name)
  pub member_timers : (name : List ℕ) → is_some (entry stand.snapshot.member_timers name) ≡ is_some (entry stand.own.members.timers name)
  pub here : DataAt stand.test.definitions stand.snapshot.itself.component_type site.behaviour site.declared Any stand.own
  pub below : FitBelow stand.test.definitions stand.snapshot.itself.component_type (result_of stand.test.definitions site.behaviour) stand.below

module _ (stand : Stand) (well : AreWellTyped stand.test.definitions) (site : Site) (is : StandsAt stand site) where
  abbrev pub ds : List Definition
  ds = stand.test.definitions

  abbrev pub kind-of : ℕ
  kind-of = stand.snapshot.itself.component_type

  abbrev pub view : View
  view = last_view stand.snapshot stand.frame

  abbrev pub wide : Scope
  wide = scope_seen ds site view

  abbrev pub reading : Reading
  reading = reads stand site

  abbrev pub At : List Entry → (List Item → Type 0) → Data → Type 0
  At declared R own = DataAt ds kind-of site.behaviour declared R own

  abbrev pub NestHere : List Entry → List Item → Type 0
  NestHere declared xs = Nest ds site.behaviour declared xs

  abbrev pub Asks : Act → Type 0
  Asks asked = FitsAct stand.test kind-of stand.snapshot.itself.path (IsMeant stand.test stand.snapshot stand.own stand.frame) asked

  pub fine-site : IsFineSite ds site.behaviour site
  fine-site = declared-fine ds well site.behaviour site.declared is.names

  pub locals : DeclaresLocals site
  locals = declared-locals ds well site.behaviour site.declared is.names

  pub view-fits : FitsSite ds site view
  view-fits = record {
    values = is.seen.values;
    timers = λ name free. subst (λ b. IfSome ((scope_at ds site).names name) (λ m. b ≡ names_timer (Some m))) (sym (is.timers name)) (is.seen.timers name free);
    timer_names = λ name there. is.seen.timer_names name (sym (is.timers name) ∙ there);
  }

  pub members-fit : FitsMembers ds kind-of (members_in stand.snapshot stand.own)
  members-fit = let fits : FitsMembers ds kind-of (view_of stand.own.members) = is.here.members in
      record { values = fits.values; timers = λ name. is.member_timers name ∙ fits.timers name }

  pub fit : FitsIn wide reading
  fit = site-fits stand.test stand.snapshot stand.own site view well fine-site locals is.on view-fits members-fit

  pub has : HasAll wide reading
  has = site-has stand.test stand.snapshot stand.own site view well fine-site locals is.on view-fits members-fit

  pub whole : IsWhole wide
  whole = seen-whole ds site view fine-site.whole

  pub within : IsWithin (scope_at ds site) wide
  within = seen-within ds site view

  pub differ : FieldsDiffer ds
  differ = fields_differ ds well

  pub known : ParametersKnown ds
  known = parameters_known ds well

  -- ---- going on

  pub remains : (xs : List Item) → NestHere site.declared xs → At site.declared (NestHere site.declared) (going_on xs stand.own)
  remains xs nest = data-going ds kind-of site.behaviour site.declared Any (NestHere site.declared) xs stand.own nest is.here

  pub fits-at : (declared : List Entry) (own : Data) → At declared (NestHere declared) own → FitsData ds kind-of own
  fits-at declared own fits = data-fits ds kind-of site.behaviour declared own fits

  pub goes-on : (xs : List Item) → NestHere site.declared xs → FitsData ds kind-of (going_on xs stand.own)
  goes-on xs nest = fits-at site.declared (going_on xs stand.own) (remains xs nest)

  -- ---- calls

  frame-if : (ct at : ℕ) (given : List written.Value) (body : Option (List Statement)) → is_some body ≡ true → IfSome body (λ b. Begins ds well at (statements b)) → RunsOn ds at ct
      → AreArguments wide (parameters_of (kind_at ds at)) given
      → GivesOnly (frame_at stand site at given body) (λ frame. FitsFrame ds ct at [] frame × Nest ds at [] frame.remaining)
  frame-if ct at given None there fine on given-fine = absurd (let e = there in cc)
  frame-if ct at given (Some body) there fine on given-fine =
      let ps = parameters_of (kind_at ds at) in
      only-mapped (AreGiven ds ps) (λ frame. FitsFrame ds ct at [] frame × Nest ds at [] frame.remaining) (λ values. function_frame stand.test at values body) (arguments reading ps given)
      (only-of (AreGiven ds ps) (arguments reading ps given)
      (arguments_met wide reading whole differ known fit has ps given (all_parameters_known ds well at) given-fine) (arguments_typed wide reading whole differ fit ps given given-fine))
      (λ values of. (frame-begins ds well ct at values (items ds (beginning at) body) on of, body-nests ds well at body fine))

  pub runs-there : (at : ℕ) → stands_alone (kind_at ds at) ≡ true → runs_here (component_named ds (runs_on_of (kind_at ds at))) (runs_on ds site.behaviour) ≡ true → RunsOn ds at kind-of
  runs-there at alone runs =
      subst (λ name. IfSome (component_named ds name) (λ n. kind-of ≡ n)) (sym (runs-callee (kind_at ds at) alone))
      (runs-on-same (component_named ds (runs_on_of (kind_at ds at))) (runs_on ds site.behaviour) kind-of runs is.on)

  pub meant-there : (name : List ℕ) (at : ℕ) → behaviour_meant (wide.names name) ≡ Some at → behaviour_meant (module_names ds name) ≡ Some at
  meant-there name at meant = module-meant behaviour_meant no-behaviour ds well site view fine-site locals name at meant

  -- the frame of a call of a function
  pub frame-called : (ct : ℕ) (call : Call) (at : ℕ) → behaviour_meant (wide.names call.name) ≡ Some at → is_function (kind_at ds at) ≡ true → RunsOn ds at ct → AreArguments wide (parameters_of (kind_at ds at)) call.arguments
      → GivesOnly (frame_of_call stand site call) (λ frame. FitsFrame ds ct at [] frame × Nest ds at [] frame.remaining)
  frame-called ct call at meant function on given =
      subst (λ m. GivesOnly (called_frame stand site call m) (λ frame. FitsFrame ds ct at [] frame × Nest ds at [] frame.remaining)) (sym (meant-there call.name at meant))
      (frame-if ct at call.arguments (body_of (kind_at ds at)) (function-body (kind_at ds at) function) (body-fine ds well at) on given)

  below-called : (declared : List Entry) (result : Option DataType) (xs : List Item) (R : List Item → Type 0) (calls : List Frame) → Awaits ds site.behaviour result declared xs → LastAt ds kind-of site.behaviour declared R calls
      → FitBelow ds kind-of result (in_last (with_remaining xs) calls)
  below-called declared result xs R [] awaits last = absurd last
  below-called declared result xs R (frame ∷ frames) awaits last =
      let fits : FitsFrame ds kind-of site.behaviour declared frame = last.0 in
      (site.behaviour, declared, record { on = fits.on; names = fits.names; seen = fits.seen }, awaits, last.2)

  frames-if : (b : Bool) (calls : List Frame) (own : Data) → FitsData ds kind-of (with_calls calls own) → GivesOnly (if b then Yields (with_calls calls own) else dynamic_error) (FitsData ds kind-of)
  frames-if true calls own fits = fits
  frames-if false calls own fits = tt

  pub frames-fit : (calls : List Frame) (own : Data) → FitsData ds kind-of (with_calls calls own) → GivesOnly (with_frames calls own) (FitsData ds kind-of)
  frames-fit calls own fits = frames-if (nat_lt (length calls) most) calls own fits

  -- a function is called, and these items remain, which may wait for its result
  pub call-asks : (declared : List Entry) (R : List Item → Type 0) (call : Call) (own : Data) (xs : List Item) (at : ℕ) → behaviour_meant (wide.names call.name) ≡ Some at → is_function (kind_at ds at) ≡ true
      → RunsOn ds at kind-of → AreArguments wide (parameters_of (kind_at ds at)) call.arguments → Awaits ds site.behaviour (result_of ds at) declared xs → At declared R own → Asks (call_function stand site call own xs)
  call-asks declared R call own xs at meant function on given awaits fits =
      acting-fits stand.test kind-of stand.snapshot.itself.path (IsMeant stand.test stand.snapshot stand.own stand.frame) (λ frame. FitsFrame ds kind-of at [] frame × Nest ds at [] frame.remaining) (λ frame. continuing (enter own xs frame)) (frame_of_call stand site call)
      (frame-called kind-of call at meant function on given)
      (λ frame new. continuing-fits stand.test kind-of stand.snapshot.itself.path (IsMeant stand.test stand.snapshot stand.own stand.frame) (enter own xs frame) (frames-fit (frame ∷ (going_on xs own).calls) own (record {
        members = fits.members;
        calls = (at, [], new.0, new.1, below-called declared (result_of ds at) xs R own.calls awaits fits.last);
        defaults = fits.defaults;
        frames = tt;
      })))

  -- items that wait for nothing
  pub awaits-none : (result : Option DataType) (declared : List Entry) (xs : List Item) → NestHere declared xs → Awaits ds site.behaviour result declared xs
  awaits-none result declared [] nest = tt
  awaits-none result declared (Doing s x part ∷ xs) nest = nest
  awaits-none result declared (Mark s x ∷ xs) nest = nest
  awaits-none result declared (Waiting target ∷ xs) nest = absurd nest

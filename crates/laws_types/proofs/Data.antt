-- The data of a component whose last frame stands at a site, and what is stored there.
use Rattle.std.proofs.Common.{◌≡◌, ℕ, Bool, true, false, List, [], ◌∷◌, Option, Some, None, IfSome, is_some, refl, sym, ap, subst, ◌∙◌}
use Rattle.std.specs.List.{All}
use Rattle.ttcn_syntax.specs.declared.tree.definition.Definition.{Definition}
use Rattle.ttcn_syntax.specs.declared.tree.expression.Reference.{Reference}
use Rattle.value_assignment.specs.Assignment.{assigned}
use Rattle.check_rules.specs.Expressions.{after, along}
use Rattle.check_rules.specs.Targets.{as_target, check_target, last_optional, target_at}
use Rattle.check_scope.specs.Names.{Entry, Names, Scope, names_on}
use Rattle.check_scope.specs.Scopes.{outer_names}
use Rattle.check_scope.specs.Typings.{type_known}
use Rattle.check_scope.specs.declared.names.Meaning.TheVariants as meaning
use Rattle.check_scope.specs.declared.types.DataType.{DataType}
use Rattle.check_scope.specs.declared.types.Target.{Target as Wanted}
use Rattle.check_scope.specs.declared.types.Typing.TheVariants as typing
use Rattle.laws_checker.specs.Laws.{IsWhole}
use Rattle.laws_evaluation.proofs.Assigned.{variable_assigned}
use Rattle.laws_evaluation.proofs.TypedValues.{weaker-goes}
use Rattle.laws_evaluation.specs.Types.{is_of, names_timer, value_goes}
use Rattle.laws_evaluation.specs.Uses.{GivesAlways, HoldsAssigned}
use Rattle.laws_sites.proofs.Firsts.{outside_same}
use Rattle.laws_sites.proofs.Sites.{own-free}
use Rattle.laws_sites.specs.Standing.{IsFineSite}
use Rattle.laws_statements.proofs.Naming.{name_defined}
use Rattle.semantics.specs.Configurations.{Data, Frame}
use Rattle.semantics.specs.Entries.{put}
use Rattle.semantics.specs.Items.{Item, Target}
use Rattle.semantics.specs.Sites.{Site, is_own, runs_on, scope_at}
use Rattle.semantics.specs.Snapshots.{Test, View}
use Rattle.semantics.specs.Storing.{going_on, in_frame, in_last, last_values, set_timer, store, type_for, values_in, with_calls, with_members, with_remaining, with_timers, with_values}
use Rattle.check_rules.specs.Rules.{AreWellTyped}
use Rattle.value_types.specs.Frames.{entry}
use Rattle.value_types.specs.Outcomes.{Fails, Outcome, Yields, outcome_map}
use Rattle.value_types.specs.declared.frame.TimerState.{TimerState}
use Rattle.value_types.specs.declared.value.Value.{Value}
use Rattle.laws_types.proofs.Declared.{by-name, declared-fine, outside-declared, seen-outside, seen-set, seen-stored}
use Rattle.laws_steps.proofs.Entries.{put-other, put-own}
use Rattle.laws_types.proofs.Readings.{seen-whole}
use Rattle.laws_types.specs.Fitting.{FitsMembers, FitsNames, IsMemberValue, IsValueOf, RunsOn, or_timer, scope_seen, view_of}
use Rattle.laws_repeat.specs.Following.{IsOutside}
use Rattle.laws_types.specs.Typed.{AreDeclared, FitBelow, FitCalls, FitsData, FitsDefault, FitsFrame, HasFrames, IsTarget, Nest, result_of}

-- ---- the last frame

-- the last frame is one of the behaviour at a position, where these names are declared, and such items remain in it
abbrev pub LastAt : List Definition → ℕ → ℕ → List Entry → (List Item → Type 0) → List Frame → Type 0
LastAt definitions component_type at declared R [] = ⊥
LastAt definitions component_type at declared R (frame ∷ frames) =
    FitsFrame definitions component_type at declared frame × R frame.remaining × FitBelow definitions component_type (result_of definitions at) frames

pub record DataAt (definitions : List Definition) (component_type at : ℕ) (declared : List Entry) (R : List Item → Type 0) (own : Data) : Type 0 where
  pub members : FitsMembers definitions component_type (view_of own.members)
  pub last : LastAt definitions component_type at declared R own.calls
  pub defaults : All (FitsDefault definitions component_type) own.defaults

abbrev pub Any : List Item → Type 0
Any items = Unit {0}

module _ (definitions : List Definition) (component_type at : ℕ) where
  calls-fit : (declared : List Entry) (calls : List Frame) → LastAt definitions component_type at declared (Nest definitions at declared) calls → FitCalls definitions component_type calls
  calls-fit declared [] is = tt
  calls-fit declared (frame ∷ frames) is = (at, declared, is.0, is.1, is.2)

  last-frames : (declared : List Entry) (calls : List Frame) → LastAt definitions component_type at declared (Nest definitions at declared) calls → HasFrames calls
  last-frames declared [] is = is
  last-frames declared (frame ∷ frames) is = tt

  pub data-fits : (declared : List Entry) (own : Data) → DataAt definitions component_type at declared (Nest definitions at declared) own → FitsData definitions component_type own
  data-fits declared own is = record { members = is.members; calls = calls-fit declared own.calls is.last; defaults = is.defaults; frames = last-frames declared own.calls is.last }

  -- a change of the last frame
  last-changed : (declared next : List Entry) (R Q : List Item → Type 0) (change : Frame → Frame)
      → ((frame : Frame) → FitsFrame definitions component_type at declared frame → R frame.remaining → FitsFrame definitions component_type at next (change frame) × Q (change frame).remaining)
      → (calls : List Frame) → LastAt definitions component_type at declared R calls → LastAt definitions component_type at next Q (in_last change calls)
  last-changed declared next R Q change keeps [] is = is
  last-changed declared next R Q change keeps (frame ∷ frames) is = let new = keeps frame is.0 is.1 in (new.0, new.1, is.2)

  pub data-changed : (declared next : List Entry) (R Q : List Item → Type 0) (change : Frame → Frame)
      → ((frame : Frame) → FitsFrame definitions component_type at declared frame → R frame.remaining → FitsFrame definitions component_type at next (change frame) × Q (change frame).remaining)
      → (own : Data) → DataAt definitions component_type at declared R own → DataAt definitions component_type at next Q (with_calls (in_last change own.calls) own)
  data-changed declared next R Q change keeps own is = record { members = is.members; last = last-changed declared next R Q change keeps own.calls is.last; defaults = is.defaults }

  -- other items remain
  pub data-going : (declared : List Entry) (R Q : List Item → Type 0) (items : List Item) (own : Data) → Q items → DataAt definitions component_type at declared R own
      → DataAt definitions component_type at declared Q (going_on items own)
  data-going declared R Q items own all is =
      data-changed declared declared R Q (with_remaining items) (λ frame fits of. (record { on = fits.on; names = fits.names; seen = fits.seen }, all)) own is

  -- of frame 0
  pub members-changed : (declared : List Entry) (R : List Item → Type 0) (members : Frame) (own : Data) → FitsMembers definitions component_type (view_of members) → DataAt definitions component_type at declared R own
      → DataAt definitions component_type at declared R (with_members members own)
  members-changed declared R members own fits is = record { members = fits; last = is.last; defaults = is.defaults }

  -- further out
  pub frame-outside : AreWellTyped definitions → (outer inner : List Entry) (frame : Frame) → IsOutside outer inner → FitsFrame definitions component_type at inner frame → FitsFrame definitions component_type at outer frame
  frame-outside well outer inner frame is fits = record {
    on = fits.on;
    names = outside-declared definitions well at outer inner is fits.names;
    seen = seen-outside definitions well at outer inner (view_of frame) is fits.names fits.seen;
  }

-- ---- members

-- a name outside of blocks that the module doesn't define is one of a member
pub member-meant : (definitions : List Definition) (of : Option ℕ) (component_type : ℕ) (name : List ℕ) (t : Option DataType) → IfSome of (λ at. component_type ≡ at) → outer_names definitions of name ≡ Some (meaning.Variable t)
    → names_on definitions component_type name ≡ Some (meaning.Variable t)
member-meant definitions None component_type name t on is =
    absurd (name_defined definitions name (meaning.Variable t) is)
member-meant definitions (Some at) component_type name t on is = subst (λ n. names_on definitions n name ≡ Some (meaning.Variable t)) (sym on) is

pub timer-meant : (definitions : List Definition) (of : Option ℕ) (component_type : ℕ) (name : List ℕ) → IfSome of (λ at. component_type ≡ at) → outer_names definitions of name ≡ Some meaning.Timer
    → names_on definitions component_type name ≡ Some meaning.Timer
timer-meant definitions None component_type name on is = absurd (name_defined definitions name meaning.Timer is)
timer-meant definitions (Some at) component_type name on is = subst (λ n. names_on definitions n name ≡ Some meaning.Timer) (sym on) is

names-stored : (definitions : List Definition) (names : Names) (view : View) (name : List ℕ) (v : Value) → IsMemberValue definitions (names name) v → FitsNames definitions names view
    → FitsNames definitions names (record { values = put name v view.values; timers = view.timers })
names-stored definitions names view name v of fits = record {
  values = λ x. by-name (λ x. IfSome (entry (put name v view.values) x) (IsMemberValue definitions (names x))) name x
      (subst (λ found. IfSome found (IsMemberValue definitions (names name))) (sym (put-own name v view.values)) of)
      (λ differs. subst (λ found. IfSome found (IsMemberValue definitions (names x))) (sym (put-other name x v differs view.values)) (fits.values x));
  timers = fits.timers;
}

names-set : (definitions : List Definition) (names : Names) (view : View) (name : List ℕ) (state : TimerState) → names name ≡ Some meaning.Timer → FitsNames definitions names view
    → FitsNames definitions names (record { values = view.values; timers = put name state view.timers })
names-set definitions names view name state is fits = record {
  values = fits.values;
  timers = λ x. by-name (λ x. is_some (entry (put name state view.timers) x) ≡ names_timer (names x)) name x
      (ap is_some (put-own name state view.timers) ∙ sym (ap names_timer is))
      (λ differs. ap is_some (put-other name x state differs view.timers) ∙ fits.timers x);
}

-- ---- storing

module _ (test : Test) (well : AreWellTyped test.definitions) (component_type : ℕ) (site : Site) (on : RunsOn test.definitions site.behaviour component_type) (names : AreDeclared test.definitions site.behaviour site.declared) where
  abbrev ds : List Definition
  ds = test.definitions

  abbrev At : (List Item → Type 0) → Data → Type 0
  At R own = DataAt ds component_type site.behaviour site.declared R own

  abbrev here : Scope
  here = scope_at ds site

  abbrev clean : Scope
  clean = scope_seen ds site (record { values = []; timers = [] })

  fine : IsFineSite ds site.behaviour site
  fine = declared-fine ds well site.behaviour site.declared names

  -- what a name holds
  last-holds : (of : DataType) (name : List ℕ) (R : List Item → Type 0) (calls : List Frame) → here.names name ≡ Some (meaning.Variable (Some of)) → LastAt ds component_type site.behaviour site.declared R calls
      → IfSome (entry (last_values calls) name) (λ v. is_of ds of v ≡ true)
  last-holds of name R [] is last = absurd last
  last-holds of name R (frame ∷ frames) is last =
      let fits : FitsFrame ds component_type site.behaviour site.declared frame = last.0 in
      subst (λ m. IfSome (entry frame.values name) (IsValueOf ds m)) is (fits.seen.values name)

  outer-variable : (of : DataType) (name : List ℕ) → here.names name ≡ Some (meaning.Variable (Some of)) → is_own ds site name ≡ false → names_on ds component_type name ≡ Some (meaning.Variable (Some of))
  outer-variable of name is own = member-meant ds (runs_on ds site.behaviour) component_type name (Some of) on (sym (outside_same ds site name own) ∙ is)

  holds : (of : DataType) (name : List ℕ) (R : List Item → Type 0) (own : Data) (b : Bool) → is_own ds site name ≡ b → here.names name ≡ Some (meaning.Variable (Some of)) → At R own
      → IfSome (entry (values_in b own) name) (λ v. is_of ds of v ≡ true)
  holds of name R own true mine is fits = last-holds of name R own.calls is fits.last
  holds of name R own false mine is fits =
      subst (λ m. IfSome (entry own.members.values name) (IsMemberValue ds m)) (outer-variable of name is mine) (fits.members.values name)

  -- it holds something else
  kept : (of : DataType) (name : List ℕ) (R : List Item → Type 0) (own : Data) (v : Value) (b : Bool) → is_own ds site name ≡ b → here.names name ≡ Some (meaning.Variable (Some of)) → is_of ds of v ≡ true → At R own
      → At R (in_frame b (λ frame. with_values (put name v frame.values) frame) own)
  kept of name R own v true mine is goes fits =
      data-changed ds component_type site.behaviour site.declared site.declared R R (λ frame. with_values (put name v frame.values) frame)
      (λ frame fits remains. (
        record {
          on = fits.on;
          names = fits.names;
          seen = seen-stored ds well site.behaviour site.declared (view_of frame) name v (subst (λ m. IsValueOf ds m v) (sym is) goes) fits.seen;
        },
        remains,
      )) own fits
  kept of name R own v false mine is goes fits =
      members-changed ds component_type site.behaviour site.declared R (with_values (put name v own.members.values) own.members) own
      (names-stored ds (names_on ds component_type) (view_of own.members) name v (subst (λ m. IsMemberValue ds m v) (sym (outer-variable of name is mine)) goes) fits.members) fits

  -- the whole of a variable, or a field
  by-fields : (of : DataType) (held : Option Value) (fields : List (List ℕ)) (v : Value) → assigned ds (type_for fields (Some of)) held fields v ≡ assigned ds (Some of) held fields v
  by-fields of held [] v = refl
  by-fields of held (field ∷ fields) v = refl

  map-always : {A B : Type 0} (P : A → Type 0) (Q : B → Type 0) (f : A → B) (o : Outcome A) → GivesAlways o P → ((a : A) → P a → Q (f a)) → GivesAlways (outcome_map f o) Q
  map-always P Q f (Yields a) is more = more a is
  map-always P Q f (Fails why) is more = is

  clean-variable : (name : List ℕ) (of : DataType) → here.names name ≡ Some (meaning.Variable (Some of)) → clean.names name ≡ Some (meaning.Variable (Some of))
  clean-variable name of is = ap (or_timer {A = TimerState} None) is

  target-fine : (reference : Reference) (of : DataType) → here.names reference.name ≡ Some (meaning.Variable (Some of)) → (along ds (typing.Known of) reference.fields).broken ≡ [] → (check_target clean reference).broken ≡ []
  target-fine reference of is nothing =
      subst (λ m. (after (as_target ds m).broken (along ds (as_target ds m).typing reference.fields)).broken ≡ []) (sym (clean-variable reference.name of is)) nothing

  -- what goes there, with `omit` or without
  abbrev wanted-at : DataType → DataType → List (List ℕ) → Wanted
  wanted-at of t fields = record { data_type = Some t; optional = last_optional ds (typing.Known of) false fields }

  target-is : (reference : Reference) (of t : DataType) → here.names reference.name ≡ Some (meaning.Variable (Some of)) → (along ds (typing.Known of) reference.fields).typing ≡ typing.Known t
      → target_at clean reference ≡ wanted-at of t reference.fields
  target-is reference of t is typed =
      subst (λ m. record { data_type = type_known (along ds (as_target ds m).typing reference.fields).typing; optional = last_optional ds (as_target ds m).typing false reference.fields } ≡ wanted-at of t reference.fields)
      (sym (clean-variable reference.name of is)) (ap (λ u. record { data_type = type_known u; optional = last_optional ds (typing.Known of) false reference.fields }) typed)

  clean-whole : IsWhole clean
  clean-whole = seen-whole ds site (record { values = []; timers = [] }) fine.whole

  pub stored : (target : Target) (t : DataType) (is : IsTarget ds site target t) (R : List Item → Type 0) (own : Data) (v : Value) → value_goes v ds (wanted-at is.of t target.reference.fields) ≡ true → At R own
      → GivesAlways (store test target v own) (At R)
  stored target t is R own v goes fits =
      let name : List ℕ = target.reference.name in
      let held : Option Value = entry (values_in target.own own) name in
      let change : Value → Data = λ new. in_frame target.own (λ frame. with_values (put name new frame.values) frame) own in
      let holding : IfSome held (λ v. is_of ds is.of v ≡ true) = holds is.of name R own target.own (sym is.own) is.variable fits in
      subst (λ d. GivesAlways (outcome_map change (assigned ds d held target.reference.fields v)) (At R)) (sym is.data_type)
      (subst (λ o. GivesAlways (outcome_map change o) (At R)) (sym (by-fields is.of held target.reference.fields v))
      (map-always (HoldsAssigned ds is.of target.reference.fields v) (At R) change (assigned ds (Some is.of) held target.reference.fields v)
      (variable_assigned clean clean-whole target.reference is.of (clean-variable name is.of is.variable) (target-fine target.reference is.of is.variable is.fields) held holding v
      (subst (λ w. value_goes v ds w ≡ true) (sym (target-is target.reference is.of t is.variable is.is)) goes))
      (λ new found. kept is.of name R own new target.own (sym is.own) is.variable found.is_typed fits)))

  -- a value of the type goes there
  pub stored-of : (target : Target) (t : DataType) → IsTarget ds site target t → (R : List Item → Type 0) (own : Data) (v : Value) → is_of ds t v ≡ true → At R own → GivesAlways (store test target v own) (At R)
  stored-of target t is R own v goes fits =
      stored target t is R own v (weaker-goes ds v (Some t) (last_optional ds (typing.Known is.of) false target.reference.fields) goes) fits

  -- ---- timers

  timer-kept : (name : List ℕ) (state : TimerState) (R : List Item → Type 0) (own : Data) (b : Bool) → is_own ds site name ≡ b → here.names name ≡ Some meaning.Timer → At R own
      → At R (in_frame b (λ frame. with_timers (put name state frame.timers) frame) own)
  timer-kept name state R own true mine is fits =
      data-changed ds component_type site.behaviour site.declared site.declared R R (λ frame. with_timers (put name state frame.timers) frame)
      (λ frame fits remains. (
        record {
          on = fits.on;
          names = fits.names;
          seen = seen-set ds well site.behaviour site.declared (view_of frame) name state is (own-free ds well site.behaviour site name fine mine) fits.seen;
        },
        remains,
      )) own fits
  timer-kept name state R own false mine is fits =
      members-changed ds component_type site.behaviour site.declared R (with_timers (put name state own.members.timers) own.members) own
      (names-set ds (names_on ds component_type) (view_of own.members) name state (timer-meant ds (runs_on ds site.behaviour) component_type name on (sym (outside_same ds site name mine) ∙ is)) fits.members) fits

  pub timer-set : (name : List ℕ) (state : TimerState) (R : List Item → Type 0) (own : Data) → here.names name ≡ Some meaning.Timer → At R own → At R (set_timer test site name state own)
  timer-set name state R own is fits = timer-kept name state R own (is_own ds site name) refl is fits

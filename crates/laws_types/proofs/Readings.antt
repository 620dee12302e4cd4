-- What is read at a site fits the scope there, where what is seen of the frame and of the members does.
use Rattle.std.proofs.Common.{◌≡◌, ◌≤◌, ℕ, true, false, List, [], Option, Some, None, IfSome, IsSomeAnd, is_some, ◌⊎◌, inl, inr, refl, sym, ap, subst, ◌∙◌, arith, if◌then◌else◌}
use Rattle.std.specs.Option.{option_or}
use Rattle.std.specs.List.{All}
use Rattle.ttcn_syntax.specs.declared.tree.definition.Definition.{Definition}
use Rattle.check_rules.specs.Templates.{template_meant}
use Rattle.check_scope.specs.Names.{Names, fields_at, module_names, names_on}
use Rattle.check_scope.specs.Scopes.{outer_names}
use Rattle.check_scope.specs.declared.names.Meaning.{Meaning}
use Rattle.check_scope.specs.declared.names.Meaning.TheVariants as meaning
use Rattle.laws_checker.specs.Laws.{HasFieldType, IsKnown, IsWhole}
use Rattle.laws_evaluation.specs.Types.{FitsIn, HasAll, names_timer}
use Rattle.laws_sites.specs.Standing.{IsFineSite}
use Rattle.laws_statements.specs.Within.{IsWithin}
use Rattle.semantics.specs.Configurations.{Data}
use Rattle.semantics.specs.Sites.{Site, runs_on, scope_at}
use Rattle.semantics.specs.Snapshots.{Snapshot, Test, View, facts_of, members_in, reading_in, seen_members}
use Rattle.check_rules.specs.Limits.{longest_chain}
use Rattle.check_rules.specs.Rules.{AreWellTyped}
use Rattle.value_types.specs.Chains.{within_chains}
use Rattle.value_types.specs.Frames.{entry, seen_entry}
use Rattle.value_types.specs.declared.frame.TimerState.{TimerState}
use Rattle.value_types.specs.declared.value.ComponentId.{ComponentId}
use Rattle.value_types.specs.declared.value.Value.{Value}
use Rattle.laws_types.proofs.Facts.{Knows, reading-fits, reading-has}
use Rattle.laws_types.proofs.Visible.{Says, module-outside, module-timers, no-template-outside, site-definitions, site-itself, site-says}
use Rattle.laws_types.specs.Fitting.{DeclaresLocals, FitsMembers, FitsSite, IsLocal, IsMemberValue, IsValueOf, RunsOn, or_timer, scope_seen}

-- ---- what is visible, with timers of blocks that ended

none-extra : (m : Option Meaning) → or_timer {A = TimerState} None m ≡ m
none-extra None = refl
none-extra (Some m) = refl

visible-stays : {A : Type 0} (found : Option A) (m : Option Meaning) (k : Meaning) → m ≡ Some k → or_timer found m ≡ Some k
visible-stays found m k is = subst (λ o. or_timer found o ≡ Some k) (sym is) refl

if-visible : {A : Type 0} (found : Option A) (m : Option Meaning) → IfSome m (λ k. or_timer found m ≡ Some k)
if-visible found None = tt
if-visible found (Some k) = refl

template-extra : {A : Type 0} (found : Option A) (m : Option Meaning) → template_meant m ≡ None → template_meant (or_timer found m) ≡ None
template-extra found (Some m) is = is
template-extra (Some a) None is = refl
template-extra None None is = refl

value-extra : {A : Type 0} (definitions : List Definition) (found : Option A) (m : Option Meaning) (v : Value) → IsValueOf definitions m v → IsValueOf definitions (or_timer found m) v
value-extra definitions found (Some m) v is = is
value-extra definitions (Some a) None v is = tt
value-extra definitions None None v is = is

known-extra : {A : Type 0} (definitions : List Definition) (found : Option A) (m : Option Meaning) → IfSome m (IsKnown definitions) → IfSome (or_timer found m) (IsKnown definitions)
known-extra definitions found (Some m) is = is
known-extra definitions (Some a) None is = tt
known-extra definitions None None is = tt

-- ---- one name

local-template : (m : Option Meaning) → IsSomeAnd m IsLocal → template_meant m ≡ None
local-template (Some (meaning.Variable of)) is = refl
local-template (Some (meaning.Constant of)) is = refl
local-template (Some meaning.Timer) is = refl
local-template _ is = absurd is

pub member-value : (definitions : List Definition) (m : Option Meaning) (v : Value) → IsMemberValue definitions m v → IsValueOf definitions m v
member-value definitions (Some (meaning.Variable of)) v is = is
member-value definitions (Some (meaning.Constant of)) v is = is
member-value definitions _ v is = absurd is

pub either-seen : {A : Type 0} (P : A → Type 0) (one other : Option A) → IfSome one P → IfSome other P → IfSome (option_or one other) P
either-seen P (Some a) other is also = is
either-seen P None other is also = also

no-entry : {A : Type 0} (o : Option A) → is_some o ≡ false → o ≡ None
no-entry None is = refl
no-entry (Some a) is = absurd (let e = is in cc)

pub if-some : {A : Type 0} (P Q : A → Type 0) (o : Option A) → ((a : A) → P a → Q a) → IfSome o P → IfSome o Q
if-some P Q None more is = tt
if-some P Q (Some a) more is = more a is

some-none : {A : Type 0} (P : Type 0) (o : Option A) (a : A) → o ≡ Some a → o ≡ None → P
some-none P o a is none = absurd (let e = sym is ∙ none in cc)

-- ---- what is seen of members

-- in a behaviour
abbrev Inside : Option ℕ → View → View
Inside of members = if is_some of then members else record { values = []; timers = [] }

members-typed : (definitions : List Definition) (of : Option ℕ) (component_type : ℕ) (members : View) (name : List ℕ) → IfSome of (λ at. component_type ≡ at) → FitsMembers definitions component_type members
    → IfSome (entry (Inside of members).values name) (IsMemberValue definitions (outer_names definitions of name))
members-typed definitions None component_type members name on is = tt
members-typed definitions (Some at) component_type members name on is =
    subst (λ at. IfSome (entry members.values name) (IsMemberValue definitions (names_on definitions at name))) on (is.values name)

members-timed : (definitions : List Definition) (of : Option ℕ) (component_type : ℕ) (members : View) (name : List ℕ) → IfSome of (λ at. component_type ≡ at) → FitsMembers definitions component_type members
    → is_some (entry (Inside of members).timers name) ≡ names_timer (outer_names definitions of name)
members-timed definitions None component_type members name on is = sym (module-timers definitions name)
members-timed definitions (Some at) component_type members name on is =
    subst (λ at. is_some (entry members.timers name) ≡ names_timer (names_on definitions at name)) on (is.timers name)

-- ---- at a site

module _ (test : Test) (well : AreWellTyped test.definitions) (itself : ComponentId) (site : Site) (view members : View)
    (fine : IsFineSite test.definitions site.behaviour site) (locals : DeclaresLocals site) (on : RunsOn test.definitions site.behaviour itself.component_type)
    (fits : FitsSite test.definitions site view) (fit : FitsMembers test.definitions itself.component_type members) where
  abbrev ds : List Definition
  ds = test.definitions

  abbrev of : Option ℕ
  of = runs_on ds site.behaviour

  abbrev here : Names
  here = (scope_at ds site).names

  abbrev names : Names
  names = (scope_seen ds site view).names

  abbrev outside : Names
  outside = outer_names ds of

  says : (name : List ℕ) → Says ds site.behaviour (outside name) (here name) name
  says name = site-says ds well site fine locals name

  module-here : (name : List ℕ) (m : Option Meaning) → module_names ds name ≡ m → Says ds site.behaviour (outside name) (here name) name → IfSome m (λ k. names name ≡ Some k)
  module-here name None is said = tt
  module-here name (Some k) is (inl same) =
      let there : outside name ≡ Some k = subst (λ o. IfSome o (λ k. outside name ≡ Some k)) is (module-outside ds well of name) in
      visible-stays (entry view.timers name) (here name) k (same ∙ there)
  module-here name (Some k) is (inr own) =
      let there : outside name ≡ Some k = subst (λ o. IfSome o (λ k. outside name ≡ Some k)) is (module-outside ds well of name) in
      some-none (names name ≡ Some k) (outside name) k there own.0

  no-template : (name : List ℕ) → module_names ds name ≡ None → Says ds site.behaviour (outside name) (here name) name → template_meant (names name) ≡ None
  no-template name none (inl same) =
      template-extra (entry view.timers name) (here name) (subst (λ o. template_meant o ≡ None) (sym same) (no-template-outside ds of name none))
  no-template name none (inr own) = template-extra (entry view.timers name) (here name) (local-template (here name) own.1)

  -- a member's value
  outer-value : (name : List ℕ) (v : Value) → IsMemberValue ds (outside name) v → Says ds site.behaviour (outside name) (here name) name → IsValueOf ds (names name) v
  outer-value name v is (inl same) =
      value-extra ds (entry view.timers name) (here name) v (subst (λ o. IsValueOf ds o v) (sym same) (member-value ds (outside name) v is))
  outer-value name v is (inr own) = absurd (subst (λ o. IsMemberValue ds o v) own.0 is)

  value-seen : (name : List ℕ) → IfSome (seen_entry view.values (seen_members test site members).values name) (IsValueOf ds (names name))
  value-seen name =
      either-seen (IsValueOf ds (names name)) (entry view.values name) (entry (seen_members test site members).values name)
      (if-some (IsValueOf ds (here name)) (IsValueOf ds (names name)) (entry view.values name) (λ v is. value-extra ds (entry view.timers name) (here name) v is) (fits.values name))
      (if-some (IsMemberValue ds (outside name)) (IsValueOf ds (names name)) (entry (seen_members test site members).values name) (λ v is. outer-value name v is (says name))
      (members-typed ds of itself.component_type members name on fit))

  -- a timer of a block that ended, or of the behaviour, is no member
  timer-with : (name : List ℕ) (found outer : Option TimerState) (visible : Option Meaning) → is_some outer ≡ names_timer (outside name) → (is_some found ≡ true → outside name ≡ None)
      → (outside name ≡ None → IfSome visible (λ m. is_some found ≡ names_timer (Some m))) → (visible ≡ outside name) ⊎ ((outside name ≡ None) × IsSomeAnd visible IsLocal)
      → is_some (option_or found outer) ≡ names_timer (or_timer found visible)
  timer-with name (Some state) outer None members free own said = refl
  timer-with name (Some state) outer (Some m) members free own said = own (free refl)
  timer-with name None outer visible members free own (inl same) =
      members ∙ ap names_timer (sym same) ∙ ap names_timer (sym (none-extra visible))
  timer-with name None outer (Some m) members free own (inr local) = members ∙ ap names_timer local.0 ∙ own local.0
  timer-with name None outer None members free own (inr local) = absurd local.1

  timer-seen : (name : List ℕ) → is_some (seen_entry view.timers (seen_members test site members).timers name) ≡ names_timer (names name)
  timer-seen name =
      timer-with name (entry view.timers name) (entry (seen_members test site members).timers name) (here name) (members-timed ds of itself.component_type members name on fit)
      (fits.timer_names name) (λ free. fits.timers name free) (says name)

  knows : Knows test itself view (seen_members test site members) names of
  knows = record {
    of_self = on;
    of_module = λ name. module-here name (module_names ds name) refl (says name);
    templates = λ name none. no-template name none (says name);
    values = λ name none. value-seen name;
    timers = timer-seen;
  }

  pub seen-fits : (snapshot : Snapshot) (n : ℕ) → longest_chain ≤ n → FitsIn (scope_seen ds site view) (within_chains n (facts_of test itself snapshot view (seen_members test site members)))
  seen-fits snapshot n enough = reading-fits test well n enough itself snapshot view (seen_members test site members) names of knows

  pub seen-has : (snapshot : Snapshot) (n : ℕ) → longest_chain ≤ n → HasAll (scope_seen ds site view) (within_chains n (facts_of test itself snapshot view (seen_members test site members)))
  seen-has snapshot n enough = reading-has test well n enough itself snapshot view (seen_members test site members) names of knows

-- ---- the scope itself

pub seen-within : (definitions : List Definition) (site : Site) (view : View) → IsWithin (scope_at definitions site) (scope_seen definitions site view)
seen-within definitions site view = record {
  definitions = sym (site-definitions definitions site);
  itself = sym (site-itself definitions site);
  names = λ name. if-visible (entry view.timers name) ((scope_at definitions site).names name);
}

pub seen-whole : (definitions : List Definition) (site : Site) (view : View) → IsWhole (scope_at definitions site) → IsWhole (scope_seen definitions site view)
seen-whole definitions site view whole = record {
  names = λ name. known-extra definitions (entry view.timers name) ((scope_at definitions site).names name)
      (subst (λ ds. IfSome ((scope_at definitions site).names name) (IsKnown ds)) (site-definitions definitions site) (whole.names name));
  fields = λ at. subst (λ ds. All (HasFieldType ds) (fields_at ds at)) (site-definitions definitions site) (whole.fields at);
}

pub le-itself : (n : ℕ) → n ≤ n
le-itself n = omega arith

-- what is read at a site fits
pub site-fits : (test : Test) (snapshot : Snapshot) (own : Data) (site : Site) (view : View) → AreWellTyped test.definitions → IsFineSite test.definitions site.behaviour site → DeclaresLocals site
    → RunsOn test.definitions site.behaviour snapshot.itself.component_type → FitsSite test.definitions site view → FitsMembers test.definitions snapshot.itself.component_type (members_in snapshot own)
    → FitsIn (scope_seen test.definitions site view) (reading_in test snapshot own site view)
site-fits test snapshot own site view well fine locals on fits fit = seen-fits test well snapshot.itself site view (members_in snapshot own) fine locals on fits fit snapshot longest_chain (le-itself longest_chain)

pub site-has : (test : Test) (snapshot : Snapshot) (own : Data) (site : Site) (view : View) → AreWellTyped test.definitions → IsFineSite test.definitions site.behaviour site → DeclaresLocals site
    → RunsOn test.definitions site.behaviour snapshot.itself.component_type → FitsSite test.definitions site view → FitsMembers test.definitions snapshot.itself.component_type (members_in snapshot own)
    → HasAll (scope_seen test.definitions site view) (reading_in test snapshot own site view)
site-has test snapshot own site view well fine locals on fits fit = seen-has test well snapshot.itself site view (members_in snapshot own) fine locals on fits fit snapshot longest_chain (le-itself longest_chain)

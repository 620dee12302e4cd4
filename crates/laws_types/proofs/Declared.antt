-- Names that are declared in a frame, and what is seen of the frame where some or all of them are.
use Rattle.std.proofs.Common.{◌≡◌, ℕ, Bool, true, false, List, [], ◌∷◌, ◌++◌, bytes_eq, Option, Some, None, IfSome, is_some, refl, sym, ap, subst, ◌∙◌, if◌then◌else◌}
use Rattle.std.specs.Option.{option_or}
use Rattle.std.proofs.lemmas.List.Elements.{All-cons, All-nil}
use Rattle.std.proofs.lemmas.Slice.Eq.{bytes_eq-Decides}
use Rattle.ttcn_syntax.specs.declared.tree.definition.Definition.{Definition}
use Rattle.check_scope.specs.Names.{Entry, Scope, declaring}
use Rattle.check_scope.specs.declared.names.Meaning.{Meaning}
use Rattle.check_scope.specs.declared.names.Meaning.TheVariants as meaning
use Rattle.laws_checker.specs.Laws.{IsKnown}
use Rattle.laws_evaluation.specs.Types.{names_timer}
use Rattle.laws_sites.proofs.Outside.{beginning-fine}
use Rattle.laws_sites.proofs.Sites.{site-behind-one}
use Rattle.laws_sites.specs.Standing.{IsFineSite, IsFree}
use Rattle.laws_statements.proofs.Growing.{new_name_within, within_both, within_itself}
use Rattle.laws_statements.proofs.Naming.{same-name}
use Rattle.laws_statements.specs.Within.{IsWithin}
use Rattle.semantics.specs.Configurations.{Frame}
use Rattle.semantics.specs.Entries.{put}
use Rattle.semantics.specs.Sites.{scope_at}
use Rattle.semantics.specs.Snapshots.{View}
use Rattle.semantics.specs.Storing.{declare, declare_timer, forget}
use Rattle.check_rules.specs.Rules.{AreWellTyped}
use Rattle.value_types.specs.Frames.{entry}
use Rattle.value_types.specs.declared.frame.TimerState.{TimerState}
use Rattle.value_types.specs.declared.frame.TimerState.TheVariants as timer
use Rattle.value_types.specs.declared.value.Value.{Value}
use Rattle.laws_steps.proofs.Entries.{put-other, put-own, without-other, without-own}
use Rattle.laws_types.proofs.Visible.{site-definitions}
use Rattle.laws_types.specs.Fitting.{DeclaresLocals, FitsSite, IsLocal, IsValueOf, view_of}
use Rattle.laws_repeat.specs.Following.{IsOutside}
use Rattle.laws_types.specs.Typed.{AreDeclared, site_of}

-- ---- names

pub by-name-if : (P : List ℕ → Type 0) (name x : List ℕ) (b : Bool) → bytes_eq name x ≡ b → P name → (bytes_eq name x ≡ false → P x) → P x
by-name-if P name x true is own other = subst P (same-name name x is) own
by-name-if P name x false is own other = other is

-- what holds of a name, and of all others, holds of each
pub by-name : (P : List ℕ → Type 0) (name x : List ℕ) → P name → (bytes_eq name x ≡ false → P x) → P x
by-name P name x own other = by-name-if P name x (bytes_eq name x) refl own other

-- what a name stands for behind its declaration
pub own-behind : (scope : Scope) (e : Entry) → (declaring scope (e ∷ [])).names e.0 ≡ Some e.1
own-behind scope e = ap (λ b. option_or (if b then Some e.1 else None) (scope.names e.0)) ((bytes_eq-Decides e.0 e.0).1 refl)

module _ (definitions : List Definition) (well : AreWellTyped definitions) (at : ℕ) where
  abbrev Here : List Entry → Scope
  Here declared = scope_at definitions (site_of at declared)

  own-means : (e : Entry) (declared : List Entry) → (Here (e ∷ declared)).names e.0 ≡ Some e.1
  own-means e declared = ap (λ b. option_or (if b then Some e.1 else None) ((Here declared).names e.0)) ((bytes_eq-Decides e.0 e.0).1 refl)

  other-means : (e : Entry) (declared : List Entry) (x : List ℕ) → bytes_eq e.0 x ≡ false → (Here (e ∷ declared)).names x ≡ (Here declared).names x
  other-means e declared x differs = ap (λ b. option_or (if b then Some e.1 else None) ((Here declared).names x)) differs

  -- ---- sites

  pub declared-fine : (declared : List Entry) → AreDeclared definitions at declared → IsFineSite definitions at (site_of at declared)
  declared-fine [] are = beginning-fine definitions well at
  declared-fine (e ∷ declared) are =
      site-behind-one definitions at (site_of at declared) e.0 e.1 (declared-fine declared are.3) are.2 (subst (λ ds. IsKnown ds e.1) (sym (site-definitions definitions (site_of at declared))) are.1)

  pub declared-locals : (declared : List Entry) → AreDeclared definitions at declared → DeclaresLocals (site_of at declared)
  declared-locals [] are = All-nil (λ (e : Entry). IsLocal e.1)
  declared-locals (e ∷ declared) are = All-cons (λ (e : Entry). IsLocal e.1) e declared are.0 (declared-locals declared are.3)

  pub declared-before : (more declared : List Entry) → AreDeclared definitions at (more ++ declared) → AreDeclared definitions at declared
  declared-before [] declared are = are
  declared-before (e ∷ more) declared are = declared-before more declared are.3

  pub declared-within : (more declared : List Entry) → AreDeclared definitions at (more ++ declared) → IsWithin (Here declared) (Here (more ++ declared))
  declared-within [] declared are = within_itself (Here declared)
  declared-within (e ∷ more) declared are =
      within_both (Here declared) (Here (more ++ declared)) (Here (e ∷ (more ++ declared))) (declared-within more declared are.3) (new_name_within (Here (more ++ declared)) e.0 e.1 are.2)

  -- further out
  pub outside-declared : (outer inner : List Entry) → IsOutside outer inner → AreDeclared definitions at inner → AreDeclared definitions at outer
  outside-declared outer inner is are = declared-before is.0 outer (subst (AreDeclared definitions at) (sym is.1) are)

  pub outside-within : (outer inner : List Entry) → IsOutside outer inner → AreDeclared definitions at inner → IsWithin (Here outer) (Here inner)
  outside-within outer inner is are = subst (λ es. IsWithin (Here outer) (Here es)) is.1 (declared-within is.0 outer (subst (AreDeclared definitions at) (sym is.1) are))

  -- ---- what is seen further out

  value-outside : (outer inner : Option Meaning) (v : Value) → IfSome outer (λ m. inner ≡ Some m) → IsValueOf definitions inner v → IsValueOf definitions outer v
  value-outside None inner v within is = tt
  value-outside (Some m) inner v within is = subst (λ o. IsValueOf definitions o v) within is

  values-outside : (outer inner : Option Meaning) (found : Option Value) → IfSome outer (λ m. inner ≡ Some m) → IfSome found (IsValueOf definitions inner) → IfSome found (IsValueOf definitions outer)
  values-outside outer inner None within is = tt
  values-outside outer inner (Some v) within is = value-outside outer inner v within is

  timers-outside : (outer inner : Option Meaning) (b : Bool) → IfSome outer (λ m. inner ≡ Some m) → IfSome inner (λ m. b ≡ names_timer (Some m)) → IfSome outer (λ m. b ≡ names_timer (Some m))
  timers-outside None inner b within is = tt
  timers-outside (Some m) inner b within is = subst (λ o. IfSome o (λ m. b ≡ names_timer (Some m))) within is

  pub seen-outside : (outer inner : List Entry) (view : View) → IsOutside outer inner → AreDeclared definitions at inner → FitsSite definitions (site_of at inner) view → FitsSite definitions (site_of at outer) view
  seen-outside outer inner view is are fits =
      let within : IsWithin (Here outer) (Here inner) = outside-within outer inner is are in
      record {
        values = λ name. values-outside ((Here outer).names name) ((Here inner).names name) (entry view.values name) (within.names name) (fits.values name);
        timers = λ name free. timers-outside ((Here outer).names name) ((Here inner).names name) (is_some (entry view.timers name)) (within.names name) (fits.timers name free);
        timer_names = fits.timer_names;
      }

  -- ---- changes

  -- a value of what the name stands for
  pub seen-stored : (declared : List Entry) (view : View) (name : List ℕ) (v : Value) → IsValueOf definitions ((Here declared).names name) v → FitsSite definitions (site_of at declared) view
      → FitsSite definitions (site_of at declared) (record { values = put name v view.values; timers = view.timers })
  seen-stored declared view name v of fits = record {
    values = λ x. by-name (λ x. IfSome (entry (put name v view.values) x) (IsValueOf definitions ((Here declared).names x))) name x
        (subst (λ found. IfSome found (IsValueOf definitions ((Here declared).names name))) (sym (put-own name v view.values)) of)
        (λ differs. subst (λ found. IfSome found (IsValueOf definitions ((Here declared).names x))) (sym (put-other name x v differs view.values)) (fits.values x));
    timers = fits.timers;
    timer_names = fits.timer_names;
  }

  own-timer : (m : Option Meaning) (b : Bool) → m ≡ Some meaning.Timer → b ≡ true → IfSome m (λ k. b ≡ names_timer (Some k))
  own-timer m b is set = subst (λ o. IfSome o (λ k. b ≡ names_timer (Some k))) (sym is) set

  -- a timer that is visible gets another state
  pub seen-set : (declared : List Entry) (view : View) (name : List ℕ) (state : TimerState) → (Here declared).names name ≡ Some meaning.Timer → IsFree definitions at name → FitsSite definitions (site_of at declared) view
      → FitsSite definitions (site_of at declared) (record { values = view.values; timers = put name state view.timers })
  seen-set declared view name state is free fits = record {
    values = fits.values;
    timers = λ x. by-name (λ x. IsFree definitions at x → IfSome ((Here declared).names x) (λ m. is_some (entry (put name state view.timers) x) ≡ names_timer (Some m))) name x
        (λ any. own-timer ((Here declared).names name) (is_some (entry (put name state view.timers) name)) is (ap is_some (put-own name state view.timers)))
        (λ differs. subst (λ found. IsFree definitions at x → IfSome ((Here declared).names x) (λ m. is_some found ≡ names_timer (Some m))) (sym (put-other name x state differs view.timers)) (fits.timers x));
    timer_names = λ x. by-name (λ x. is_some (entry (put name state view.timers) x) ≡ true → IsFree definitions at x) name x (λ any. free)
        (λ differs. subst (λ found. is_some found ≡ true → IsFree definitions at x) (sym (put-other name x state differs view.timers)) (fits.timer_names x));
  }

  -- ---- one more name is declared

  declared-seen : (declared : List Entry) (view next : View) (e : Entry) → IsFree definitions at e.0 → FitsSite definitions (site_of at declared) view
      → IfSome (entry next.values e.0) (IsValueOf definitions (Some e.1)) → is_some (entry next.timers e.0) ≡ names_timer (Some e.1)
      → ((x : List ℕ) → bytes_eq e.0 x ≡ false → entry next.values x ≡ entry view.values x) → ((x : List ℕ) → bytes_eq e.0 x ≡ false → entry next.timers x ≡ entry view.timers x)
      → FitsSite definitions (site_of at (e ∷ declared)) next
  declared-seen declared view next e free fits value set values timers = record {
    values = λ x. by-name (λ x. IfSome (entry next.values x) (IsValueOf definitions ((Here (e ∷ declared)).names x))) e.0 x
        (subst (λ m. IfSome (entry next.values e.0) (IsValueOf definitions m)) (sym (own-means e declared)) value)
        (λ differs. subst (λ m. IfSome (entry next.values x) (IsValueOf definitions m)) (sym (other-means e declared x differs))
        (subst (λ found. IfSome found (IsValueOf definitions ((Here declared).names x))) (sym (values x differs)) (fits.values x)));
    timers = λ x. by-name (λ x. IsFree definitions at x → IfSome ((Here (e ∷ declared)).names x) (λ m. is_some (entry next.timers x) ≡ names_timer (Some m))) e.0 x
        (λ any. subst (λ o. IfSome o (λ m. is_some (entry next.timers e.0) ≡ names_timer (Some m))) (sym (own-means e declared)) set)
        (λ differs. subst (λ o. IsFree definitions at x → IfSome o (λ m. is_some (entry next.timers x) ≡ names_timer (Some m))) (sym (other-means e declared x differs))
        (subst (λ found. IsFree definitions at x → IfSome ((Here declared).names x) (λ m. is_some found ≡ names_timer (Some m))) (sym (timers x differs)) (fits.timers x)));
    timer_names = λ x. by-name (λ x. is_some (entry next.timers x) ≡ true → IsFree definitions at x) e.0 x (λ any. free)
        (λ differs. subst (λ found. is_some found ≡ true → IsFree definitions at x) (sym (timers x differs)) (fits.timer_names x));
  }

  module _ (declared : List Entry) (frame : Frame) (name : List ℕ) (m : Meaning) (free : IsFree definitions at name) (fits : FitsSite definitions (site_of at declared) (view_of frame)) where
    pub seen-declared : (v : Value) → names_timer (Some m) ≡ false → IsValueOf definitions (Some m) v → FitsSite definitions (site_of at ((name, m) ∷ declared)) (view_of (declare name v frame))
    seen-declared v no-timer of =
        declared-seen declared (view_of frame) (view_of (declare name v frame)) (name, m) free fits (subst (λ found. IfSome found (IsValueOf definitions (Some m))) (sym (put-own name v frame.values)) of)
        (ap is_some (without-own name frame.timers) ∙ sym no-timer) (λ x differs. put-other name x v differs frame.values) (λ x differs. without-other name x differs frame.timers)

    pub seen-forgotten : names_timer (Some m) ≡ false → FitsSite definitions (site_of at ((name, m) ∷ declared)) (view_of (forget name frame))
    seen-forgotten no-timer =
        declared-seen declared (view_of frame) (view_of (forget name frame)) (name, m) free fits (subst (λ found. IfSome found (IsValueOf definitions (Some m))) (sym (without-own name frame.values)) tt)
        (ap is_some (without-own name frame.timers) ∙ sym no-timer) (λ x differs. without-other name x differs frame.values) (λ x differs. without-other name x differs frame.timers)

    pub seen-timer : names_timer (Some m) ≡ true → FitsSite definitions (site_of at ((name, m) ∷ declared)) (view_of (declare_timer name frame))
    seen-timer is-timer =
        declared-seen declared (view_of frame) (view_of (declare_timer name frame)) (name, m) free fits (subst (λ found. IfSome found (IsValueOf definitions (Some m))) (sym (without-own name frame.values)) tt)
        (ap is_some (put-own name timer.Inactive frame.timers) ∙ sym is-timer) (λ x differs. without-other name x differs frame.values) (λ x differs. put-other name x timer.Inactive differs frame.timers)

pub seen_outside : (definitions : List Definition) (at : ℕ) (outer inner : List Entry) (view : View) → AreWellTyped definitions → IsOutside outer inner → AreDeclared definitions at inner
    → FitsSite definitions (site_of at inner) view → FitsSite definitions (site_of at outer) view
seen_outside definitions at outer inner view well is are fits = seen-outside definitions well at outer inner view is are fits

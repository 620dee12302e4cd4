-- What is seen of frames and components fits what the checker knows: each value is of the type of what its name stands for, and timers are those that are declared (ES 201 873-1, 5.2, 6, 12 and 16).
use Rattle.std.specs.Prelude.{◌≡◌, ℕ, true, List, Option, Some, None, IfSome, is_some}
use Rattle.std.specs.List.{All}
use Rattle.ttcn_syntax.specs.declared.tree.definition.Definition.{Definition}
use Rattle.check_rules.specs.Expressions.{check_meaning}
use Rattle.check_scope.specs.Names.{Names, Scope, names_on}
use Rattle.check_scope.specs.Typings.{typed}
use Rattle.check_scope.specs.declared.names.Meaning.{Meaning}
use Rattle.check_scope.specs.declared.names.Meaning.TheVariants as meaning
use Rattle.laws_evaluation.specs.Types.{IsOfTyping, names_timer}
use Rattle.laws_sites.specs.Standing.{IsFree}
use Rattle.semantics.specs.Configurations.{Frame}
use Rattle.semantics.specs.Sites.{Site, runs_on, scope_at}
use Rattle.semantics.specs.Snapshots.{View}
use Rattle.value_types.specs.Frames.{entry}
use Rattle.value_types.specs.declared.value.Value.{Value}

-- ---- names

-- what is declared in a behaviour: a variable, a constant or a timer
abbrev pub IsLocal : Meaning → Type 0
IsLocal (meaning.Variable of) = Unit {0}
IsLocal (meaning.Constant of) = Unit {0}
IsLocal meaning.Timer = Unit {0}
IsLocal _ = ⊥

-- each name that is declared before a site is a variable, a constant or a timer
abbrev pub DeclaresLocals : Site → Type 0
DeclaresLocals site = All (λ entry. IsLocal entry.1) site.declared

-- a behaviour that says on what it runs does so on components of this type
abbrev pub RunsOn : List Definition → ℕ → ℕ → Type 0
RunsOn definitions behaviour component_type = IfSome (runs_on definitions behaviour) (λ at. component_type ≡ at)

-- ---- values

-- a value is of the type of what a name stands for: where the name stands for nothing, any value is
abbrev pub IsValueOf : List Definition → Option Meaning → Value → Type 0
IsValueOf definitions m v = IsOfTyping definitions (check_meaning definitions m).typing v

-- a value of a member: the name stands for a variable or a constant, and the value is of its type
abbrev pub IsMemberValue : List Definition → Option Meaning → Value → Type 0
IsMemberValue definitions (Some (meaning.Variable of)) v = IsOfTyping definitions (typed of) v
IsMemberValue definitions (Some (meaning.Constant of)) v = IsOfTyping definitions (typed of) v
IsMemberValue definitions _ v = ⊥

-- ---- what is seen

-- a frame with its own timers, as it is seen
abbrev pub view_of : Frame → View
view_of frame = record { values = frame.values; timers = frame.timers }

-- what is seen of members fits the names that they declare: values are of their types, and timers are those of these names, and no others
pub record FitsNames (definitions : List Definition) (names : Names) (view : View) : Type 0 where
  pub values : (name : List ℕ) → IfSome (entry view.values name) (IsMemberValue definitions (names name))
  pub timers : (name : List ℕ) → is_some (entry view.timers name) ≡ names_timer (names name)

-- what is seen of frame 0 fits the component type at a position
abbrev pub FitsMembers : List Definition → ℕ → View → Type 0
FitsMembers definitions at view = FitsNames definitions (names_on definitions at) view

-- what is seen of a frame fits a site of its behaviour: values are of the types of what their names stand for there, and of the names that are the
-- behaviour's own and visible there those of timers have one, and no others. Names of blocks that ended stand for nothing, and may have anything
pub record FitsSite (definitions : List Definition) (site : Site) (view : View) : Type 0 where
  pub values : (name : List ℕ) → IfSome (entry view.values name) (IsValueOf definitions ((scope_at definitions site).names name))
  pub timers : (name : List ℕ) → IsFree definitions site.behaviour name
      → IfSome ((scope_at definitions site).names name) (λ m. is_some (entry view.timers name) ≡ names_timer (Some m))
  pub timer_names : (name : List ℕ) → is_some (entry view.timers name) ≡ true → IsFree definitions site.behaviour name

-- ---- timers of blocks that ended

-- what a name stands for where it is visible, or else a timer where it has one
abbrev pub or_timer : {A : Type 0} → Option A → Option Meaning → Option Meaning
or_timer found (Some m) = Some m
or_timer (Some state) None = Some meaning.Timer
or_timer None None = None

-- the scope at a site with the timers that are there from blocks that ended: no statement at the site names one
abbrev pub scope_seen : List Definition → Site → View → Scope
scope_seen definitions site view = record {
  definitions = definitions;
  names = λ name. or_timer (entry view.timers name) ((scope_at definitions site).names name);
  itself = runs_on definitions site.behaviour;
}

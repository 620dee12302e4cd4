-- The timers that components await, where they stand by the rules.
use Rattle.std.proofs.Common.{◌≡◌, ℕ, true, false, List, [], ◌∷◌, Option, Some, None, refl, subst}
use Rattle.std.specs.List.{All}
use Rattle.std.proofs.lemmas.List.Elements.{All-contains, All-head}
use Rattle.ttcn_syntax.specs.declared.tree.definition.Definition.{Definition}
use Rattle.ttcn_syntax.specs.declared.tree.statement.Action.{Action}
use Rattle.ttcn_syntax.specs.declared.tree.statement.Action.TheOpen.{Action-F, Alternative-F}
use Rattle.ttcn_syntax.specs.declared.tree.statement.Alternative.{Alternative, out-Alternative}
use Rattle.ttcn_syntax.specs.declared.tree.statement.Branch.{Branch, out-Branch}
use Rattle.ttcn_syntax.specs.declared.tree.statement.Conditional.{Conditional}
use Rattle.ttcn_syntax.specs.declared.tree.statement.Event.{Event}
use Rattle.ttcn_syntax.specs.declared.tree.statement.Event.TheVariants as event
use Rattle.ttcn_syntax.specs.declared.tree.statement.Statement.{Statement}
use Rattle.check_scope.specs.Scopes.{outer_names}
use Rattle.check_scope.specs.declared.names.Meaning.{Meaning}
use Rattle.check_scope.specs.declared.rule.Rule.TheVariants as rule
use Rattle.check_rules.specs.Messages.{check_event, is_timer_name}
use Rattle.check_rules.specs.Statements.{Place}
use Rattle.laws_checker.proofs.Nothing.{kept}
use Rattle.laws_sites.proofs.Blocks.{parts-of, place}
use Rattle.laws_sites.proofs.Firsts.{last-frame, outside_same}
use Rattle.laws_sites.proofs.Frames.{entry-named}
use Rattle.laws_sites.specs.Awaiting.{AwaitsTimeout, BeginsByTimeout, IsTimeout}
use Rattle.laws_sites.specs.Standing.{IsFineFrame, IsFineItem, IsFineSite, IsFrameOf, IsFree, StandsByRules}
use Rattle.laws_statements.specs.Parts.{HasFineAlternative, HasFineParts, IsFineBranch}
use Rattle.semantics.specs.Configurations.{Component, Frame, Goes, Going, component_at}
use Rattle.semantics.specs.Items.{Does, Doing, Item, Whole, action_of}
use Rattle.semantics.specs.Sites.{Site, is_own, runs_on}
use Rattle.semantics.specs.Snapshots.{Test}
use Rattle.value_types.specs.Frames.{entry}
use Rattle.value_types.specs.declared.path.Path.{Path}

event-timer : (place : Place) (name : List ℕ) (e : Event) → IsTimeout name e → check_event place.scope e ≡ [] → is_timer_name (place.scope.names name) ≡ true
event-timer place name (event.Timeout timer) is nothing =
    subst (λ n. is_timer_name (place.scope.names n) ≡ true) is (kept (is_timer_name (place.scope.names timer)) rule.UnknownName nothing)
event-timer place name (event.Receive receive) is nothing = absurd is
event-timer place name (event.Done reference) is nothing = absurd is
event-timer place name event.AllDone is nothing = absurd is

branch-timer : (place : Place) (name : List ℕ) (x : Alternative-F Action Alternative Branch Conditional Statement) → BeginsByTimeout name x → HasFineAlternative place x → is_timer_name (place.scope.names name) ≡ true
branch-timer place name (Alternative-F.«Alternative::Event» guard e block) is fine = event-timer place name e is fine.1
branch-timer place name (Alternative-F.«Alternative::Call» guard call block) is fine = absurd is
branch-timer place name (Alternative-F.Else block) is fine = absurd is

awaited-timer : (place : Place) (name : List ℕ) (x : Does) → AwaitsTimeout name x → HasFineParts place x → is_timer_name (place.scope.names name) ≡ true
awaited-timer place name (Action-F.«Action::Event» e) is fine = event-timer place name e is fine
awaited-timer place name (Action-F.Alt branches) is fine =
    branch-timer place name (out-Alternative (out-Branch is.0).alternative) is.2 (All-contains (IsFineBranch place) branches is.0 fine is.1)
awaited-timer place name _ is fine = absurd is

no-timer : (o : Option Meaning) → is_timer_name o ≡ true → o ≡ None → ⊥
no-timer None is none = let e = is in cc
no-timer (Some m) is none = let e = none in cc

none-such : {A : Type 0} (o : Option A) → ((a : A) → o ≡ Some a → ⊥) → o ≡ None
none-such None never = refl
none-such (Some a) never = absurd (never a refl)

-- a frame of a behaviour that stands there
frame-awaits : (definitions : List Definition) (at : ℕ) (frame : Frame) (site : Site) (s : Statement) (rest : List Item) (name : List ℕ) → IsFrameOf definitions at frame → frame.remaining ≡ Doing site s Whole ∷ rest
    → AwaitsTimeout name (action_of s) → is_own definitions site name ≡ false → entry frame.timers name ≡ None
frame-awaits definitions at frame site s rest name fine stands awaits own =
    let item : IsFineItem definitions at (Doing site s Whole) = All-head (IsFineItem definitions at) (Doing site s Whole) rest (subst (All (IsFineItem definitions at)) stands fine.items) in
    let here : IsFineSite definitions at site = item.0 in
    let seen = awaited-timer (place definitions at site item.1.1.0) name (action_of s) awaits (parts-of definitions at site s item.1.1.0 here item.1.1.1) in
    let outside : is_timer_name (outer_names definitions (runs_on definitions at) name) ≡ true =
    subst (λ n. is_timer_name (outer_names definitions (runs_on definitions n) name) ≡ true) here.within (subst (λ o. is_timer_name o ≡ true) (outside_same definitions site name own) seen) in
    none-such (entry frame.timers name) (λ state found. no-timer (outer_names definitions (runs_on definitions at) name) outside (entry-named (IsFree definitions at) name frame.timers state fine.timers found))

pub awaited_outside : (test : Test) (c : Going) (p : Path) (x : Component) (frame : Frame) (below : List Frame) (site : Site) (s : Statement) (rest : List Item) (name : List ℕ) → StandsByRules test (Goes c)
    → component_at c p ≡ Some x → x.own.calls ≡ frame ∷ below → frame.remaining ≡ Doing site s Whole ∷ rest → AwaitsTimeout name (action_of s) → is_own test.definitions site name ≡ false
    → entry frame.timers name ≡ None
awaited_outside test c p x frame below site s rest name is found calls stands awaits own =
    let last : IsFineFrame test.definitions frame = last-frame test c p x frame below is found calls in
    frame-awaits test.definitions last.0 frame site s rest name last.1 stands awaits own

-- What a stored snapshot still says of its component, and what follows for the choice by it.
use Rattle.std.proofs.Common.{◌≡◌, ℕ, Bool, true, false, List, [], ◌∷◌, ◌++◌, Option, Some, None, IfSome, is_some, ◌⊎◌, inl, inr, refl, sym, ap, subst, ◌∙◌, if◌then◌else◌}
use Rattle.std.specs.Option.{option_or}
use Rattle.ttcn_syntax.specs.declared.tree.statement.Event.{Event}
use Rattle.ttcn_syntax.specs.declared.tree.statement.Event.TheVariants as event
use Rattle.ttcn_syntax.specs.declared.tree.statement.Statement.{Statement, out-Statement}
use Rattle.laws_fine.proofs.Choices.{IsSafeAt, IsSafeChoice, IsSafeIn, alt-is, by_option, chosen_at, judge_with}
use Rattle.laws_fine.proofs.Early.{FindsFront, HasFront}
use Rattle.laws_fine.proofs.Fronts.{HasMessage, IsTold, PortsDiffer}
use Rattle.laws_fine.proofs.Lapses.{IsSafe, last_timer, timer_to_set, with_way}
use Rattle.laws_fine.proofs.Origins.{IsChosen, IsNewTop, IsOrigin, WaitsFor, WaitsIfAny, is-chosen}
use Rattle.laws_fine.specs.Fine.{begins_with_alt, is_at_alt}
use Rattle.semantics.specs.Branches.{Chance, Judge}
use Rattle.semantics.specs.Configurations.{Component, Data, Frame, Queue}
use Rattle.semantics.specs.Entries.{Entries}
use Rattle.semantics.specs.Events.{Choice, Effect, Elapses, Happened, Nothing, Plain, Receives, Refused, Taken, timer_seen}
use Rattle.semantics.specs.Items.{Does, Doing, From, Item, Last, Loop, Mark, Name, Start, Waiting, Whole, action_of}
use Rattle.semantics.specs.Sites.{Site, is_own, runs_on}
use Rattle.semantics.specs.Snapshots.{Snapshot, Test, View, members_in, seen_members, timers_of}
use Rattle.semantics.specs.Statements.{act, act_first, act_in, act_port, acting, with_frames}
use Rattle.semantics.specs.Storing.{in_last, with_remaining}
use Rattle.semantics.specs.Taking.{entered, marked, port_taken, taken}
use Rattle.value_types.specs.Frames.{entry, seen_entry}
use Rattle.value_types.specs.Outcomes.{Fails, Outcome, Yields, outcome_and_then}
use Rattle.value_types.specs.declared.frame.TimerState.{TimerState}
use Rattle.value_types.specs.declared.frame.TimerState.TheVariants as timer

-- ---- what a snapshot says later

-- the state of a timer, and its state later: it may have expired
abbrev pub IsLater : Option TimerState → Option TimerState → Type 0
IsLater old new = (new ≡ old) ⊎ ((old ≡ Some timer.Running) × (new ≡ Some timer.Expired))

abbrev pub AreLater : Entries TimerState → Entries TimerState → Type 0
AreLater old new = (name : List ℕ) → IsLater (entry old name) (entry new name)

-- what a stored snapshot says of its component is so, but for timers that expired and messages that came
pub record IsKept (snapshot : Snapshot) (x : Component) : Type 0 where
  pub differ : PortsDiffer snapshot.fronts
  pub fronts : (port : List ℕ) → HasMessage port snapshot.fronts → HasFront port x.queues
  pub timers : AreLater snapshot.timers (timers_of x.own.calls)
  pub members : AreLater snapshot.member_timers x.own.members.timers

-- a timer that the statement itself waits for, and that isn't declared in the behaviour, is none of the frame's
abbrev pub IsApartAt : Test → Frame → List Item → Type 0
IsApartAt test frame (Doing site s Whole ∷ rest) =
    (name : List ℕ) → WaitsFor (action_of s) (event.Timeout name) → is_own test.definitions site name ≡ false → entry frame.timers name ≡ None
IsApartAt test frame other = Unit {0}

abbrev pub IsApart : Test → List Frame → Type 0
IsApart test [] = Unit {0}
IsApart test (frame ∷ below) = IsApartAt test frame frame.remaining

-- ---- timers that were seen

expired-still : (old new : Option TimerState) → IsLater old new → old ≡ Some timer.Expired → new ≡ Some timer.Expired
expired-still old new (inl same) is = same ∙ is
expired-still old new (inr lapsed) is = lapsed.1

none-still : (old new : Option TimerState) → IsLater old new → new ≡ None → old ≡ None
none-still old new (inl same) is = sym same ∙ is
none-still old new (inr lapsed) is = absurd (let no : None ≡ Some timer.Expired = sym is ∙ lapsed.1 in cc)

-- what is expired or isn't there doesn't run
expired-not : (o : Option TimerState) → o ≡ Some timer.Expired → o ≡ Some timer.Running → ⊥
expired-not o is runs = let no : Some timer.Expired ≡ Some timer.Running = sym is ∙ runs in cc

none-not : (o : Option TimerState) → o ≡ None → o ≡ Some timer.Running → ⊥
none-not o is runs = let no : None ≡ Some timer.Running = sym is ∙ runs in cc

-- the timer of the type is seen where the frame has none
outer-seen : (inner outer : Entries TimerState) (name : List ℕ) → entry inner name ≡ None → seen_entry inner outer name ≡ Some timer.Expired → entry outer name ≡ Some timer.Expired
outer-seen inner outer name none seen = told (entry inner name) none seen
  where
    told : (o : Option TimerState) → o ≡ None → option_or o (entry outer name) ≡ Some timer.Expired → entry outer name ≡ Some timer.Expired
    told None is e = e
    told (Some state) is e = absurd (let no = is in cc)

-- what is seen of the timers of the type
members-told : (b : Bool) (members : View) (name : List ℕ) → entry (if b then members else record { values = []; timers = [] }).timers name ≡ Some timer.Expired → entry members.timers name ≡ Some timer.Expired
members-told true members name is = is
members-told false members name is = absurd (let no = is in cc)

member-seen : (test : Test) (snapshot : Snapshot) (own : Data) (judge : Judge) (name : List ℕ) → entry judge.view.timers name ≡ None → timer_seen test snapshot own judge name ≡ Some timer.Expired
    → entry snapshot.member_timers name ≡ Some timer.Expired
member-seen test snapshot own judge name none seen =
    members-told (is_some (runs_on test.definitions judge.site.behaviour)) (members_in snapshot own) name
    (outer-seen judge.view.timers (seen_members test judge.site (members_in snapshot own)).timers name none seen)

-- the timer of the frame is not running, whether it was seen or not
frame-not : (inner outer : Entries TimerState) (name : List ℕ) (new : Option TimerState) → IsLater (entry inner name) new → seen_entry inner outer name ≡ Some timer.Expired → new ≡ Some timer.Running → ⊥
frame-not inner outer name new later seen runs = told (entry inner name) refl seen later
  where
    told : (o : Option TimerState) → entry inner name ≡ o → option_or o (entry outer name) ≡ Some timer.Expired → IsLater o new → ⊥
    told None is e (inl same) = none-not new same runs
    told None is e (inr lapsed) = let no = lapsed.0 in cc
    told (Some state) is e later = expired-not new (expired-still (Some state) new later e) runs

-- ---- the choice is safe

empty-timer : (frame : Frame) (name : List ℕ) → frame.timers ≡ [] → entry frame.timers name ≡ None
empty-timer frame name is = ap (λ timers. entry timers name) is

top-none : (frames others : List Frame) (name : List ℕ) → IsNewTop frames → last_timer (frames ++ others) name ≡ None
top-none [] others name new = absurd new
top-none (frame ∷ frames) others name new = empty-timer frame name new

-- a branch of an altstep
called-safe : (test : Test) (snapshot : Snapshot) (x : Component) (site : Site) (s : Statement) (rest : List Item) (chance : Chance) (name : List ℕ) (b : Bool) → IsKept snapshot x
    → IsNewTop chance.way.frames → chance.judge.view.timers ≡ [] → timer_seen test snapshot x.own chance.judge name ≡ Some timer.Expired
    → timer_to_set b name (with_way site s rest chance.way x.own) ≡ Some timer.Running → ⊥
called-safe test snapshot x site s rest chance name true kept new none seen runs =
    none-not (last_timer (entered site s rest chance.way x.own.calls) name) (top-none chance.way.frames (in_last (with_remaining (marked site s rest chance.way)) x.own.calls) name new) runs
called-safe test snapshot x site s rest chance name false kept new none seen runs =
    expired-not (entry x.own.members.timers name)
    (expired-still (entry snapshot.member_timers name) (entry x.own.members.timers name) (kept.members name)
    (member-seen test snapshot x.own chance.judge name (ap (λ timers. entry timers name) none) seen)) runs

last-is : (ws : List Frame) (items : List Item) (frame : Frame) (below : List Frame) (name : List ℕ) → ws ≡ [] → last_timer (ws ++ in_last (with_remaining items) (frame ∷ below)) name ≡ entry frame.timers name
last-is ws items frame below name none = ap (λ more. last_timer (more ++ in_last (with_remaining items) (frame ∷ below)) name) none

-- a branch of the statement itself
direct-safe : (test : Test) (snapshot : Snapshot) (own : Data) (frame : Frame) (below : List Frame) (site : Site) (s : Statement) (rest : List Item) (chance : Chance) (name : List ℕ) (b : Bool)
    → own.calls ≡ frame ∷ below → AreLater snapshot.timers frame.timers → AreLater snapshot.member_timers own.members.timers
    → chance.way.frames ≡ [] → chance.judge ≡ judge_with snapshot site frame.values → (b ≡ false → entry frame.timers name ≡ None)
    → timer_seen test snapshot own chance.judge name ≡ Some timer.Expired → timer_to_set b name (with_way site s rest chance.way own) ≡ Some timer.Running → ⊥
direct-safe test snapshot own frame below site s rest chance name true calls timers members none judge apart seen runs =
    frame-not snapshot.timers (seen_members test site (members_in snapshot own)).timers name (entry frame.timers name) (timers name)
    (ap (λ j. timer_seen test snapshot own j name) (sym judge) ∙ seen)
    (sym (ap (λ cs. last_timer (chance.way.frames ++ in_last (with_remaining (marked site s rest chance.way)) cs) name) calls ∙ last-is chance.way.frames (marked site s rest chance.way) frame below name none) ∙ runs)
direct-safe test snapshot own frame below site s rest chance name false calls timers members none judge apart seen runs =
    expired-not (entry own.members.timers name)
    (expired-still (entry snapshot.member_timers name) (entry own.members.timers name) (members name)
    (member-seen test snapshot own (judge_with snapshot site frame.values) name (none-still (entry snapshot.timers name) (entry frame.timers name) (timers name) (apart refl))
    (ap (λ j. timer_seen test snapshot own j name) (sym judge) ∙ seen))) runs

waits-told : (does : Does) (e : Option Event) (name : List ℕ) → e ≡ Some (event.Timeout name) → WaitsIfAny does e → WaitsFor does (event.Timeout name)
waits-told does e name is waits = subst (WaitsIfAny does) is waits

effect-safe : (test : Test) (snapshot : Snapshot) (x : Component) (frame : Frame) (below : List Frame) (site : Site) (s : Statement) (rest : List Item) (chance : Chance) (effect : Effect) → IsKept snapshot x
    → x.own.calls ≡ frame ∷ below → ((name : List ℕ) → WaitsFor (action_of s) (event.Timeout name) → is_own test.definitions site name ≡ false → entry frame.timers name ≡ None)
    → IsOrigin (action_of s) (judge_with snapshot site frame.values) chance → IsTold test snapshot x.own chance.judge chance.event (Happened effect)
    → IsSafe test chance.judge.site effect (with_way site s rest chance.way x.own)
effect-safe test snapshot x frame below site s rest chance Plain kept calls apart origin told = tt
effect-safe test snapshot x frame below site s rest chance (Receives port stored) kept calls apart origin told = tt
effect-safe test snapshot x frame below site s rest chance (Elapses name) kept calls apart (inl direct) told =
    direct-safe test snapshot x.own frame below site s rest chance name (is_own test.definitions chance.judge.site name) calls
    (subst (λ cs. AreLater snapshot.timers (timers_of cs)) calls kept.timers) kept.members direct.0 direct.1
    (λ own. apart name (waits-told (action_of s) chance.event name told.0 direct.2) (ap (λ (j : Judge). is_own test.definitions j.site name) (sym direct.1) ∙ own)) told.1
effect-safe test snapshot x frame below site s rest chance (Elapses name) kept calls apart (inr called) told =
    called-safe test snapshot x site s rest chance name (is_own test.definitions chance.judge.site name) kept called.0 called.1 told.1

choice-safe : (test : Test) (snapshot : Snapshot) (x : Component) (frame : Frame) (below : List Frame) (site : Site) (s : Statement) (rest : List Item) (o : Option Choice) → IsKept snapshot x
    → x.own.calls ≡ frame ∷ below → ((name : List ℕ) → WaitsFor (action_of s) (event.Timeout name) → is_own test.definitions site name ≡ false → entry frame.timers name ≡ None)
    → IfSome o (IsChosen test snapshot x.own (action_of s) (judge_with snapshot site frame.values)) → IsSafeChoice test site s rest x.own o
choice-safe test snapshot x frame below site s rest None kept calls apart chosen = tt
choice-safe test snapshot x frame below site s rest (Some Nothing) kept calls apart chosen = tt
choice-safe test snapshot x frame below site s rest (Some (Refused why)) kept calls apart chosen = tt
choice-safe test snapshot x frame below site s rest (Some (Taken chance effect)) kept calls apart chosen =
    effect-safe test snapshot x frame below site s rest chance effect kept calls apart chosen.0 chosen.1

items-safe : (test : Test) (snapshot : Snapshot) (x : Component) (frame : Frame) (below : List Frame) (items : List Item) → IsKept snapshot x → x.own.calls ≡ frame ∷ below → IsApartAt test frame items
    → IsSafeAt test snapshot x.own frame items
items-safe test snapshot x frame below (Doing site s Whole ∷ rest) kept calls apart =
    choice-safe test snapshot x frame below site s rest (chosen_at test snapshot x.own site s frame.values) kept calls apart
    (is-chosen test snapshot x.own (action_of s) (judge_with snapshot site frame.values) (out-Statement s).place kept.differ)
items-safe test snapshot x frame below [] kept calls apart = tt
items-safe test snapshot x frame below (Doing site s (Name k) ∷ rest) kept calls apart = tt
items-safe test snapshot x frame below (Doing site s (From k) ∷ rest) kept calls apart = tt
items-safe test snapshot x frame below (Doing site s Start ∷ rest) kept calls apart = tt
items-safe test snapshot x frame below (Doing site s Loop ∷ rest) kept calls apart = tt
items-safe test snapshot x frame below (Doing site s Last ∷ rest) kept calls apart = tt
items-safe test snapshot x frame below (Mark site s ∷ rest) kept calls apart = tt
items-safe test snapshot x frame below (Waiting target ∷ rest) kept calls apart = tt

frames-safe : (test : Test) (snapshot : Snapshot) (x : Component) (calls : List Frame) → IsKept snapshot x → x.own.calls ≡ calls → IsApart test calls → IsSafeIn test snapshot x.own calls
frames-safe test snapshot x [] kept is apart = tt
frames-safe test snapshot x (frame ∷ below) kept is apart = items-safe test snapshot x frame below frame.remaining kept is apart

-- what is chosen by a stored snapshot makes no timer inactive that runs
pub kept-safe : (test : Test) (snapshot : Snapshot) (x : Component) → IsKept snapshot x → IsApart test x.own.calls → IsSafeIn test snapshot x.own x.own.calls
kept-safe test snapshot x kept apart = frames-safe test snapshot x x.own.calls kept refl apart

-- ---- the message is there

acting-finds : (queues : List Queue) (port : Option (List ℕ)) (o : Outcome Data) → IfSome port (λ p. HasFront p queues) → FindsFront (acting (act_port port) o) queues
acting-finds queues None (Yields d) has = tt
acting-finds queues (Some port) (Yields d) has = has
acting-finds queues port (Fails why) has = tt

effect-finds : (test : Test) (snapshot : Snapshot) (x : Component) (chance : Chance) (effect : Effect) → IsKept snapshot x → IsTold test snapshot x.own chance.judge chance.event (Happened effect)
    → IfSome (port_taken effect) (λ p. HasFront p x.queues)
effect-finds test snapshot x chance Plain kept told = tt
effect-finds test snapshot x chance (Receives port stored) kept told = kept.fronts port told
effect-finds test snapshot x chance (Elapses name) kept told = tt

choice-finds : (test : Test) (snapshot : Snapshot) (x : Component) (judge : Judge) (site : Site) (s : Statement) (rest : List Item) (o : Option Choice) → IsKept snapshot x
    → IfSome o (IsChosen test snapshot x.own (action_of s) judge) → FindsFront (by_option test site s rest x.own o) x.queues
choice-finds test snapshot x judge site s rest None kept chosen = tt
choice-finds test snapshot x judge site s rest (Some Nothing) kept chosen = tt
choice-finds test snapshot x judge site s rest (Some (Refused why)) kept chosen = tt
choice-finds test snapshot x judge site s rest (Some (Taken chance effect)) kept chosen =
    acting-finds x.queues (port_taken effect) (outcome_and_then (λ d. with_frames d.calls d) (taken test site s rest chance effect x.own)) (effect-finds test snapshot x chance effect kept chosen.1)

items-find : (test : Test) (snapshot : Snapshot) (x : Component) (frame : Frame) (below : List Frame) (items : List Item) → IsKept snapshot x → begins_with_alt test items ≡ true
    → FindsFront (act_first test snapshot x.own frame below items) x.queues
items-find test snapshot x frame below (Doing site s Whole ∷ rest) kept is =
    subst (λ a. FindsFront a x.queues) (sym (alt-is test snapshot x.own frame below site s rest is))
    (choice-finds test snapshot x (judge_with snapshot site frame.values) site s rest (chosen_at test snapshot x.own site s frame.values) kept
    (is-chosen test snapshot x.own (action_of s) (judge_with snapshot site frame.values) (out-Statement s).place kept.differ))
items-find test snapshot x frame below [] kept is = absurd (let no = is in cc)
items-find test snapshot x frame below (Doing site s (Name k) ∷ rest) kept is = absurd (let no = is in cc)
items-find test snapshot x frame below (Doing site s (From k) ∷ rest) kept is = absurd (let no = is in cc)
items-find test snapshot x frame below (Doing site s Start ∷ rest) kept is = absurd (let no = is in cc)
items-find test snapshot x frame below (Doing site s Loop ∷ rest) kept is = absurd (let no = is in cc)
items-find test snapshot x frame below (Doing site s Last ∷ rest) kept is = absurd (let no = is in cc)
items-find test snapshot x frame below (Mark site s ∷ rest) kept is = absurd (let no = is in cc)
items-find test snapshot x frame below (Waiting target ∷ rest) kept is = absurd (let no = is in cc)

frames-find : (test : Test) (snapshot : Snapshot) (x : Component) (calls : List Frame) → IsKept snapshot x → is_at_alt test calls ≡ true → FindsFront (act_in test snapshot x.own calls) x.queues
frames-find test snapshot x [] kept is = absurd (let no = is in cc)
frames-find test snapshot x (frame ∷ below) kept is = items-find test snapshot x frame below frame.remaining kept is

-- the message that is removed is there
pub kept-finds : (test : Test) (snapshot : Snapshot) (x : Component) → IsKept snapshot x → is_at_alt test x.own.calls ≡ true → FindsFront (act test snapshot x.own) x.queues
kept-finds test snapshot x kept is = frames-find test snapshot x x.own.calls kept is
